-- What is stored is what the log says, after each kind of call.
use Rattle.std.proofs.Common.{◌≡◌, inl, inr, ℕ, ◌+◌, ◌-◌, ◌^◌, ◌↔◌, min, Bool, true, false}
use Rattle.std.proofs.Common.{if◌then◌else◌, IsTrue, List, length, refl, sym, ap, ◌∙◌, arith}
use Rattle.std.proofs.lemmas.Bool.{cases_lt, false≢true}
use Rattle.mf_journal.specs.Calls.{after, tried}
use Rattle.mf_journal.specs.Calls as call
use Rattle.mf_journal.specs.Images.{length-over, length-shredded, left_settled, played_settled}
use Rattle.mf_journal.specs.Memory.{IsExact, IsStopped, IsStored, left_by, next, over, played}
use Rattle.mf_journal.specs.Memory.{shredded}
use Rattle.mf_journal.specs.declared.history.History.{History}
use Rattle.mf_journal.specs.declared.log.Log.{Log}

module _ (bytes crashed : List ℕ) (stop calls : ℕ) (starved : Bool) (k : History)
    (s : IsStored bytes crashed stop calls starved k) (more : ℕ)
    (counts : more ≡ min (calls + 1) (2 ^ 32 - 1)) where
  -- a call that was not to fail
  went_on : (IsStopped stop (min (calls + 1) (2 ^ 32 - 1)) → IsTrue false) → (l : Log)
      → l.calls ≡ k.log.calls + 1
      → l.faults ≡ k.log.faults → l.lacks ≡ k.log.lacks → IsExact (next l k)
  went_on runs l one same lacks = record {
    never = λ fine none. same ∙ s.faults.never (sym lacks ∙ fine) none;
    since = λ fine some. elim (cases_lt (k.log.calls + 1) stop) [
      | inl early ↦
          let so_far = s.faults.since (sym lacks ∙ fine) some in omega (arith, s.stops)
      | inr late ↦
          absurd (false≢true
          (runs (omega (arith, s.stops), omega (arith, s.stops, s.count, s.small))))
    ];
  }

  -- a call that was to fail
  stopped : IsStopped stop (min (calls + 1) (2 ^ 32 - 1)) → (l : Log) → l.calls ≡ k.log.calls + 1
      → l.faults ≡ k.log.faults + 1 → l.lacks ≡ k.log.lacks → IsExact (next l k)
  stopped here l one more_faults lacks = record {
    never = λ fine none. absurd (omega (arith, here.0, s.stops));
    since = λ fine some.
        let so_far = s.faults.since (sym lacks ∙ fine) some in
        omega (arith, here.1, s.stops, s.count);
  }

  pub synced : (now list : List ℕ) → now ≡ bytes → list ≡ bytes
      → (IsStopped stop (min (calls + 1) (2 ^ 32 - 1)) → IsTrue false)
      → IsStored now list stop more starved (next (after call.sync k.log) k)
  synced now list same is runs =
      let ws = k.log.writes in
      let n = k.log.calls + 1 in
      record {
        same_length = ap length (is ∙ sym same);
        read = same ∙ s.read ∙ sym (played_settled k.origin.first n ws);
        left = is ∙ s.read ∙ sym (left_settled k.origin.first n ws);
        stops = s.stops;
        small = s.small;
        count = omega (arith, s.count);
        lacks = s.lacks;
        faults = went_on runs (after call.sync k.log) refl refl refl;
      }

  module _ (at : ℕ) (xs list torn : List ℕ) (is : list ≡ over at xs bytes)
      (torn_is : torn ≡ over at (shredded 0 xs) crashed) where
    writes : (l : Log) → l.calls ≡ k.log.calls + 1 → l.lacks ≡ k.log.lacks
        → l.writes ≡ (after (call.write at xs) k.log).writes → IsExact (next l k)
        → IsStored list torn stop more starved (next l k)
    writes l one lacks same exact = record {
      same_length = omega (
        arith,
        ap length is,
        ap length torn_is,
        length-over at xs bytes,
        length-over at (shredded 0 xs) crashed,
        length-shredded 0 xs,
        s.same_length,
      );
      read = is ∙ ap (over at xs) s.read ∙ ap (played k.origin.first) (sym same);
      left = torn_is ∙ ap (over at (shredded 0 xs)) s.left ∙ ap (left_by k.origin.first) (sym same);
      stops = s.stops;
      small = s.small;
      count = omega (arith, s.count);
      lacks = lacks ∙ s.lacks;
      faults = exact;
    }

    -- a write, whether it was to fail or not
    pub written : (fails : Bool) → (IsTrue fails ↔ IsStopped stop (min (calls + 1) (2 ^ 32 - 1)))
        → IsStored list torn stop more starved
        (next (if fails then tried at xs k.log else after (call.write at xs) k.log) k)
    written true told =
        writes (tried at xs k.log) refl refl refl
        (stopped (told.0 refl) (tried at xs k.log) refl refl refl)
    written false told =
        let l = after (call.write at xs) k.log in
        writes l refl refl refl (went_on told.1 l refl refl refl)
