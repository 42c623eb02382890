-- How adding several records goes on.
use Rattle.std.proofs.Common.{◌≡◌, ◌⊎◌, inl, inr, ⊎_elim, ℕ, ◌+◌, ◌*◌, ◌<◌, ◌≤◌, Bool, true, List}
use Rattle.std.proofs.Common.{[]}
use Rattle.std.proofs.Common.{◌∷◌, ◌++◌, length, take, refl, sym, ap, subst, ◌∙◌, arith}
use Rattle.std.proofs.Common.{append_assoc}
use Rattle.std.proofs.lemmas.List.{append-nil}
use Rattle.std.proofs.lemmas.Bool.{cases_lt, false≢true}
use Rattle.mf_journal.specs.Calls.{Call, Ran, after, sync, write}
use Rattle.mf_journal.specs.declared.log.Log.{Log}
use Rattle.mf_journal.specs.Frames.{IsBeforeOrAfter, IsJournal}
use Rattle.mf_journal.specs.Kept.{Keeps, adds, adds_all, gate_after}
use Rattle.mf_journal.specs.Moments.{AnyMoment}
use Rattle.mf_journal.specs.Run.{HasAcknowledged, HasFirst, KeepsMore}
use Rattle.mf_journal.specs.declared.journal.Journal.{Journal}

after_calls : (c : Call) (a : Log) → (after c a).calls ≡ a.calls + 1
after_calls (write at bytes) a = refl
after_calls sync a = refl

pub ran_calls : (cs : List Call) (a b : Log) → Ran cs a b true → b.calls ≡ a.calls + length cs
ran_calls [] a b ran = ap (λ l. l.calls) ran.0 ∙ omega arith
ran_calls (c ∷ cs) a b (inl fails) = absurd (false≢true (sym fails.1))
ran_calls (c ∷ cs) a b (inr ran) = omega (arith, ran_calls cs (after c a) b ran, after_calls c a)

pub ran_on : (cs ds : List Call) (a b d : Log) (all : Bool) → Ran cs a b true → Ran ds b d all
    → Ran (cs ++ ds) a d all
ran_on [] ds a b d all ran more = subst (λ l. Ran ds l d all) ran.0 more
ran_on (c ∷ cs) ds a b d all (inl fails) more = absurd (false≢true (sym fails.1))
ran_on (c ∷ cs) ds a b d all (inr ran) more = inr (ran_on cs ds (after c a) b d all ran more)

pub adds_push : (gate : ℕ) (ps : List (List ℕ)) (p : List ℕ)
    → adds_all gate (ps ++ p ∷ []) ≡ adds_all gate ps ++ adds (gate_after gate ps) p
adds_push gate [] p = append-nil (adds gate p)
adds_push gate (q ∷ ps) p =
    let next = gate + 5 + length q in
    ap (λ cs. adds gate q ++ cs) (adds_push next ps p)
    ∙ sym (append_assoc (adds gate q) (adds_all next ps) (adds (gate_after next ps) p))

pub gate_push : (gate : ℕ) (ps : List (List ℕ)) (p : List ℕ)
    → gate_after gate (ps ++ p ∷ []) ≡ gate_after gate ps + 5 + length p
gate_push gate [] p = refl
gate_push gate (q ∷ ps) p = gate_push (gate + 5 + length q) ps p

module _ {D : Type 0} (reads : D → List ℕ) (leaves : D → List ℕ → Type 0) (calls : D → ℕ)
    (left_since : D → ℕ → List ℕ → Type 0) (old : Journal D) (more : List (List ℕ)) where
  abbrev Reached : Journal D → ℕ → Type 0
  Reached now n = HasAcknowledged reads leaves calls left_since old now more n

  abbrev KeepsTo : Journal D → ℕ → Type 0
  KeepsTo now n = KeepsMore reads leaves old now (take n more)

  -- at a moment after which nothing was called
  quiet : (now : Journal D) (n : ℕ) → n ≤ length more → KeepsTo now n
      → ((c : List ℕ) → left_since now.disk (calls now.disk) c → leaves now.disk c)
      → (ps : List (List ℕ)) → Keeps reads leaves old ps
      → (c : List ℕ) → left_since now.disk (calls now.disk) c → HasFirst ps more n c
  quiet now n within keeps only ps kept c left =
      let rest = (keeps ps kept).rest in
      record {
        j = n;
        some = omega arith;
        not_more = within;
        stands = subst (λ l. IsJournal l (ps ++ take n more)) (sym (rest.lasting c (only c left)))
            rest.stands;
      }

  begins_each : ((c : List ℕ) → left_since old.disk (calls old.disk) c → leaves old.disk c)
      → (ps : List (List ℕ)) → Keeps reads leaves old ps → (k : ℕ) (c : List ℕ) → k ≤ 0
      → left_since old.disk (calls old.disk + 4 * k) c → HasFirst ps more k c
  begins_each only ps kept k c none left =
      let now : calls old.disk + 4 * k ≡ calls old.disk = omega arith in
      let same : k ≡ 0 = omega arith in
      let keeps : KeepsTo old 0 =
      λ qs held. subst (Keeps reads leaves old) (sym (append-nil qs)) held in
      subst (λ n. HasFirst ps more n c) (sym same)
      (quiet old 0 (omega arith) keeps only ps kept c
      (subst (λ t. left_since old.disk t c) now left))

  pub begins : ((c : List ℕ) → left_since old.disk (calls old.disk) c → leaves old.disk c)
      → Reached old 0
  begins only = record { each = begins_each only; before = λ ps kept t c le left. inl left }

  module _ (mid new : Journal D) (i : ℕ) (p : List ℕ) (within : i < length more)
      (is : take (i + 1) more ≡ take i more ++ p ∷ []) (so_far : Reached mid i)
      (keeps : KeepsTo mid i)
      (count : calls mid.disk ≡ calls old.disk + 4 * i)
      (any : (ps : List (List ℕ)) → Keeps reads leaves mid ps
      → AnyMoment calls left_since mid.disk new.disk (IsBeforeOrAfter ps p)) where
    here : (ps : List (List ℕ)) (k : ℕ) (c : List ℕ) → k ≤ i
        → IsBeforeOrAfter (ps ++ take i more) p c → HasFirst ps more k c
    here ps k c le (inl before) =
        record { j = i; some = le; not_more = omega arith; stands = before }
    here ps k c le (inr with_it) = record {
      j = i + 1;
      some = omega arith;
      not_more = omega arith;
      stands = subst (IsJournal c)
          (append_assoc ps (take i more) (p ∷ []) ∙ ap (λ l. ps ++ l) (sym is)) with_it;
    }

    fails_each : (ps : List (List ℕ)) → Keeps reads leaves old ps → (k : ℕ) (c : List ℕ) → k ≤ i
        → left_since new.disk (calls old.disk + 4 * k) c → HasFirst ps more k c
    fails_each ps kept k c le left =
        ⊎_elim (so_far.each ps kept k c le) (here ps k c le)
        ((any (ps ++ take i more) (keeps ps kept)).before (calls old.disk + 4 * k) c
        (omega (arith, count)) left)

    fails_before : (ps : List (List ℕ)) → Keeps reads leaves old ps → (t : ℕ) (c : List ℕ)
        → t ≤ calls old.disk → left_since new.disk t c
        → left_since old.disk t c ⊎ HasFirst ps more 0 c
    fails_before ps kept t c le left =
        ⊎_elim (so_far.before ps kept t c le) (λ now. inr (here ps 0 c (omega arith) now))
        ((any (ps ++ take i more) (keeps ps kept)).before t c (omega (arith, count, le)) left)

    -- an append that failed
    pub fails : Reached new i
    fails = record { each = fails_each; before = fails_before }

    goes_each : KeepsTo new (i + 1) → calls new.disk ≡ calls old.disk + 4 * (i + 1)
        → ((c : List ℕ) → left_since new.disk (calls new.disk) c → leaves new.disk c)
        → (ps : List (List ℕ)) → Keeps reads leaves old ps → (k : ℕ) (c : List ℕ) → k ≤ i + 1
        → left_since new.disk (calls old.disk + 4 * k) c → HasFirst ps more k c
    goes_each keeps_more count_more only ps kept k c le left = elim (cases_lt i k) [
      | inl last ↦
          let same : k ≡ i + 1 = omega arith in
          let now : calls old.disk + 4 * k ≡ calls new.disk = omega (arith, count_more) in
          subst (λ n. HasFirst ps more n c) (sym same)
          (quiet new (i + 1) (omega arith) keeps_more only ps kept c
          (subst (λ t. left_since new.disk t c) now left))
      | inr earlier ↦ fails_each ps kept k c earlier left
    ]

    -- one that succeeded
    pub goes : KeepsTo new (i + 1) → calls new.disk ≡ calls old.disk + 4 * (i + 1)
        → ((c : List ℕ) → left_since new.disk (calls new.disk) c → leaves new.disk c)
        → Reached new (i + 1)
    goes keeps_more count_more only = record {
      each = goes_each keeps_more count_more only;
      before = fails_before;
    }
