-- The greatest number below another that passes a test; due stages.
use Rattle.std.proofs.Common.{◌≡◌, ℕ, zero, suc, ◌+◌, ◌<◌, ◌≤◌, Bool, true, cond, List, length, refl, sym}
use Rattle.std.proofs.Common.{ap}
use Rattle.std.proofs.Common.{◌∙◌, subst, inl, inr, arith}
use Rattle.std.specs.Prelude.{slice_index}
use Rattle.std.proofs.lemmas.Bool.{cases_Bool, cases_lt, cond-true, cond-false, le-leb, leb-true}
use Rattle.mf_policy.specs.Policies.{IsPolicy}
use Rattle.mf_policy.specs.Due.{greatest, has_reached, due_of, IsDue}

pub greatest_next : (p : ℕ → Bool) (n : ℕ) → greatest p (n + 1) ≡ cond (p n) n (greatest p n)
greatest_next p n = let next : n + 1 ≡ suc n = omega arith in ap (greatest p) next

greatest_below : (p : ℕ → Bool) (n : ℕ) → greatest p n ≤ n
greatest_below p zero = omega arith
greatest_below p (suc n) =
    elim (cases_Bool (p n)) [
      | inl holds ↦ let at : greatest p (suc n) ≡ n = cond-true _ _ _ holds in omega (arith, at)
      | inr fails ↦
          let at : greatest p (suc n) ≡ greatest p n = cond-false _ _ _ fails in omega (arith, at, greatest_below p n)
    ]

greatest_lt : (p : ℕ → Bool) (n : ℕ) → greatest p (suc n) ≤ n
greatest_lt p n =
    elim (cases_Bool (p n)) [
      | inl holds ↦ let at : greatest p (suc n) ≡ n = cond-true _ _ _ holds in omega (arith, at)
      | inr fails ↦
          let at : greatest p (suc n) ≡ greatest p n = cond-false _ _ _ fails in omega (arith, at, greatest_below p n)
    ]

greatest_passes : (p : ℕ → Bool) (n : ℕ) → p 0 ≡ true → p (greatest p (suc n)) ≡ true
greatest_passes p zero first = ap p (cond-true _ _ _ first) ∙ first
greatest_passes p (suc n) first =
    elim (cases_Bool (p (suc n))) [
      | inl holds ↦ ap p (cond-true _ _ _ holds) ∙ holds
      | inr fails ↦ ap p (cond-false _ _ _ fails) ∙ greatest_passes p n first
    ]

greatest_last : (p : ℕ → Bool) (n h : ℕ) → h < n → p h ≡ true → h ≤ greatest p n
greatest_last p zero h lt passes = absurd (omega arith)
greatest_last p (suc n) h lt passes =
    elim (cases_Bool (p n)) [
      | inl holds ↦ let at : greatest p (suc n) ≡ n = cond-true _ _ _ holds in omega (arith, at)
      | inr fails ↦
          let at : greatest p (suc n) ≡ greatest p n = cond-false _ _ _ fails in
          elim (cases_lt h n) [
            | inl below ↦ omega (arith, at, greatest_last p n h below passes)
            | inr above ↦
                let same : h ≡ n = omega arith in
                absurd (let never = sym passes ∙ ap p same ∙ fails in cc)
          ]
    ]

pub is_due : (thresholds : List ℕ) (age : ℕ) → IsPolicy thresholds → IsDue thresholds age (due_of thresholds age)
is_due thresholds age h = go (length thresholds) refl h.some
  where
    go : (n : ℕ) → length thresholds ≡ n → 0 < n → IsDue thresholds age (due_of thresholds age)
    go zero long some = absurd (omega arith)
    go (suc n) long some =
        subst (λ m. IsDue thresholds age (greatest (has_reached thresholds age) m)) (sym long) (record {
          stage = omega (arith, greatest_lt (has_reached thresholds age) n);
          reached = leb-true _ _ (greatest_passes (has_reached thresholds age) n
              (le-leb (slice_index thresholds 0) age (omega (arith, h.first))));
          last = λ g lt reached. greatest_last (has_reached thresholds age) (suc n) g (omega arith)
              (le-leb (slice_index thresholds g) age reached);
        })

-- a due stage is one of the stages
pub due_within : (thresholds : List ℕ) (age : ℕ) → 0 < length thresholds → due_of thresholds age < length thresholds
due_within thresholds age some = go (length thresholds) some
  where
    go : (n : ℕ) → 0 < n → greatest (has_reached thresholds age) n < n
    go zero some = absurd (omega arith)
    go (suc n) some = omega (arith, greatest_lt (has_reached thresholds age) n)
