-- A state keeps the ten rules with one actor alone, also without the note of its last step and what it was last inside
-- of.
use Rattle.std.proofs.Common.{◌≡◌, ◌⊎◌, ℕ, zero, suc, ◌+◌, ◌<◌, ◌≤◌, [], ◌∷◌, sym, refl, subst, ⊎_elim, inl, inr}
use Rattle.std.proofs.Common.{arith}
use mathlib.Core.Option.{some, some-injective, some-ne-none}
use lib.ListN.{get_elem?}
use Rattle.mf_machine.specs.declared.view.Met.{Met}
use Rattle.mf_machine.specs.declared.view.View.{View}
use Rattle.mf_machine.specs.Actors.{Among, HasRight, HasLooked, LastLooked, SawShut, Free, IsDropping, live}
use Rattle.mf_machine.specs.Actors.{IsBearing, IsRetaking}
use Rattle.mf_machine.specs.Answers as answer
use Rattle.mf_machine.specs.Answers.{Answer, often}
use Rattle.mf_machine.specs.File.{File, Opening, State, Holds}
use Rattle.mf_machine.specs.Kept.{IsActor, IsClosed, IsMetOf, HasSeen, IsBorn, HasTaken, Cause, Kept}
use Rattle.mf_machine.specs.Laws.{alone}
use Rattle.mf_machine.specs.Sums.{in_birth, in_retake, in_lose, in_drop}
use Rattle.mf_machine.specs.Words.{IsLost}
use Rattle.mf_machine.proofs.Lists.{bit_not}
use Rattle.mf_vault.specs.Licence.{erased}
use Rattle.mf_shared.specs.Unbound.{IsUnbound}

-- a fact of the only actor
only : (P : View → Type 0) (x : View) → P x → (j : ℕ) (w : View) → get_elem? (x ∷ []) j ≡ some w → P w
only P x p zero w e = subst P (some-injective x w e) p
only P x p (suc j) w e = absurd (some-ne-none w (sym e))

-- who is inside of nothing has nothing Taken
nothing_taken : (w : View) → Free w → (n : ℕ) → HasTaken w n → ⊥
nothing_taken w free n h = ⊎_elim (λ e. absurd (omega arith)) (λ a. ⊎_elim (λ e. absurd (omega arith))
    (λ b. ⊎_elim (λ e. absurd (omega arith)) (λ c. ⊎_elim (λ e. absurd (omega arith)) (λ e. absurd (omega arith)) c) b)
    a) h

no_birth : (w : View) → Free w → (n : ℕ) → in_birth n w ≡ 0
no_birth w free n = bit_not w.inside.bearing (n + 1) (λ e. omega arith)

no_retake : (w : View) → Free w → (n : ℕ) → in_retake n w ≡ 0
no_retake w free n = bit_not w.inside.retaking (n + 1) (λ e. omega arith)

no_lose : (w : View) → Free w → (n : ℕ) → in_lose n w ≡ 0
no_lose w free n = bit_not w.inside.losing (n + 1) (λ e. omega arith)

no_drop : (w : View) → Free w → (n : ℕ) → in_drop n w ≡ 0
no_drop w free n = bit_not w.inside.dropping (n + 1) (λ e. omega arith)

module _ (f : File) (k : Opening) (s : State) (v : View) (unbound : IsUnbound v) (r : Kept f k (alone s v)) where
  abbrev u : View
  u = erased v

  -- a fact of the actor, which it keeps
  each : (P : View → Type 0) → P u → (j : ℕ) (w : View) → IsActor (alone s u) j w → P w
  each P p = only P u p

  lacks : HasRight v.build → ⊥
  lacks h = let z = unbound.right in omega arith

  taken_by_none : (n : ℕ) → n < f.names → s.name n ≡ 2 → ⊥
  taken_by_none n l e = let t = r.cells.taken n l e in
      only (λ w. HasTaken w n → ⊥) v (nothing_taken v unbound.free n) t.0 t.1 t.2 t.3

  taken_of_none : (j : ℕ) (w : View) → IsActor (alone s u) j w → (n : ℕ) → HasTaken w n → ⊥
  taken_of_none = each (λ w. (n : ℕ) → HasTaken w n → ⊥) (nothing_taken u refl)

  cause : (m : Met) (a : Answer) → Cause k (alone s v) m a → Cause k (alone s u) m a
  cause m (answer.here n) c = let a = no_birth v unbound.free n in let b = no_retake v unbound.free n in
      ⊎_elim (λ e. inl e) (λ x. inr (⊎_elim (λ e. inl e) (λ y. inr (⊎_elim (λ e. inl e)
      (λ z. absurd (⊎_elim (λ h. absurd (omega arith)) (λ h. absurd (omega arith)) z)) y)) x)) c
  cause m (answer.not_dropped n) c = let a = no_lose v unbound.free n in let b = no_drop v unbound.free n in
      ⊎_elim (λ e. inl e) (λ x. inr (⊎_elim (λ e. inl e) (λ y. inr (⊎_elim (λ e. inl e) (λ z. inr (⊎_elim (λ e. inl e)
      (λ q. absurd (⊎_elim (λ h. absurd (omega arith)) (λ h. absurd (omega arith)) q)) z)) y)) x)) c
  cause m a c = c

  pub kept_erased : Kept f k (alone s u)
  kept_erased = record {
    number = record {
      top = r.number.top;
      seen = each (λ w. (m : ℕ) → HasSeen w m → m ≤ s.number) (r.number.seen 0 v refl);
      holder = each (λ w. HasRight w.build → HasLooked w.build → LastLooked w.last s.number) (r.number.holder 0 v refl);
    };
    pins = record {
      passed = r.pins.passed;
      bare = λ g l c. each (λ w. live g w ≡ 0) (r.pins.bare g l c 0 v refl);
      stage = each (λ w. (g : ℕ) → 0 < live g w → g < f.stages) (r.pins.stage 0 v refl);
      stays_open = each (λ w. (g : ℕ) → 0 < live g w → IsClosed s g → ⊥) (r.pins.stays_open 0 v refl);
      seen = each (λ w. (g : ℕ) → 0 < live g w → HasSeen w (g + 1)) (r.pins.seen 0 v refl);
    };
    born = record {
      published = r.born.published;
      seen = each (λ w. (g : ℕ) → g < f.stages → HasSeen w (g + 1) → IsBorn f s g) (r.born.seen 0 v refl);
    };
    seen = record {
      closed = each (λ w. (g : ℕ) → g < f.stages → SawShut g w → IsClosed s g) (r.seen.closed 0 v refl);
      born = each (λ w. (n : ℕ) → Among n w.seen.born → s.name n ≡ 0 → ⊥) (r.seen.born 0 v refl);
      dropped = each (λ w. (n : ℕ) → Among n w.seen.dropped → s.name n ≡ 3) (r.seen.dropped 0 v refl);
    };
    builder = record {
      unborn = each (λ w. HasRight w.build → (n : ℕ) → Among n w.build.unborn
          → (s.name n ≡ 0) ⊎ ((s.name n ≡ 2) × IsBearing w.inside n)) (λ h. absurd (lacks h));
      lost = each (λ w. HasRight w.build → (n : ℕ) → Among n w.build.lost
          → IsLost (s.name n) ⊎ ((s.name n ≡ 3) ⊎ ((s.name n ≡ 2) × IsRetaking w.inside n))) (λ h. absurd (lacks h));
    };
    dropped = record {
      done = r.dropped.done;
      doing = each (λ w. (n : ℕ) → IsDropping w.inside n → (g : ℕ) → g < f.stages → Holds f g n → IsClosed s g)
          (λ n e. absurd (let z : 0 ≡ n + 1 = e in omega arith));
    };
    losses = r.losses;
    cells = record {
      here = r.cells.here;
      taken = λ n l e. absurd (taken_by_none n l e);
      one = λ i j x w e d n h. absurd (taken_of_none i x e n h);
      named = λ j w e n h. absurd (taken_of_none j w e n h);
      marked = λ j w e n h. absurd (taken_of_none j w e n h);
      held = λ j w e n h. absurd (taken_of_none j w e n h);
    };
    accounted = record {
      number = r.accounted.number;
      greatest = r.accounted.greatest;
      published_once = r.accounted.published_once;
      closed_once = r.accounted.closed_once;
      put_once = r.accounted.put_once;
      dropped_once = r.accounted.dropped_once;
      closed = r.accounted.closed;
      unborn = λ n l. let t = r.accounted.unborn n l in let a = no_birth v unbound.free n in let b = no_birth u refl n
          in (
            λ h. t.0 (⊎_elim (λ e. inl e) (λ q. absurd (omega arith)) h),
            λ h. ⊎_elim (λ e. inl e) (λ q. absurd (omega arith)) (t.1 h),
          );
      dropped = r.accounted.dropped;
      lost = λ n l ne h. let b = no_retake u refl n in
          r.accounted.lost n l ne (⊎_elim (λ e. inl e) (λ q. absurd (omega arith)) h);
      kept = λ n l ne low z. let a = no_retake v unbound.free n in r.accounted.kept n l ne low (omega arith);
      line = r.accounted.line;
    };
    caused = record {
      answers = λ a. each (λ w. (m : Met) → IsMetOf w m → 0 < often a m → Cause k (alone s u) m a)
          (λ m is h. cause m a (r.caused.answers a 0 v refl m is h));
      right = each (λ w. HasRight w.build → 0 < w.own.begun) (r.caused.right 0 v refl);
      pin = each (λ w. (g : ℕ) → 0 < live g w → Among g w.own.opened) (r.caused.pin 0 v refl);
    };
  }
