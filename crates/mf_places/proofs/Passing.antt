-- The numbers below n that pass a test, ascending.
use Rattle.std.proofs.Common.{◌≡◌, ℕ, suc, zero, ◌+◌, ◌<◌, Bool, true, false, cond, List, [], ◌∷◌, ◌++◌, filter, ap}
use Rattle.std.proofs.Common.{◌∙◌, sym, subst, ⊎_elim, arith, Contains}
use Rattle.std.proofs.lemmas.Bool.{cases_lt, cases_Bool}
use Rattle.std.proofs.lemmas.List.{map-id, append-nil}
use Rattle.std.proofs.lemmas.List.Elements.{Contains-append_left, Contains-push, Contains-push_cases}
use Rattle.std.proofs.lemmas.List.FromFn.{filter_of_map_range_with_len_more, length-range_with_len}
use Rattle.std.proofs.lemmas.List.FromFn.{get_or-range_with_len}
use Rattle.std.proofs.lemmas.List.Kept.{IsStrictlyIncreasing-filter}
use Rattle.std.specs.List.{range_with_len}
use Rattle.std.specs.List.Sorted.{IsStrictlyIncreasing}

abbrev pub passing : (ℕ → Bool) → ℕ → List ℕ
passing p n = filter p (range_with_len 0 n)

-- one number more
pub passing-more : (p : ℕ → Bool) (n : ℕ) → passing p (n + 1) ≡ passing p n ++ cond (p n) (n ∷ []) []
passing-more p n =
    ap (filter p) (sym (map-id (range_with_len 0 (n + 1))))
    ∙ filter_of_map_range_with_len_more p (λ (x : ℕ). x) 0 n n (omega arith)
    ∙ ap (λ ys. filter p ys ++ cond (p n) (n ∷ []) []) (map-id (range_with_len 0 n))

pub passing-yes : (p : ℕ → Bool) (n : ℕ) → p n ≡ true → passing p (n + 1) ≡ passing p n ++ n ∷ []
passing-yes p n h = passing-more p n ∙ ap (λ b. passing p n ++ cond b (n ∷ []) []) h

pub passing-no : (p : ℕ → Bool) (n : ℕ) → p n ≡ false → passing p (n + 1) ≡ passing p n
passing-no p n h = passing-more p n ∙ ap (λ b. passing p n ++ cond b (n ∷ []) []) h ∙ append-nil (passing p n)

range-rises : (n : ℕ) → IsStrictlyIncreasing (range_with_len 0 n)
range-rises n = λ k below.
    let long = length-range_with_len 0 n in
    omega (arith, get_or-range_with_len 0 n k 0 (omega arith), get_or-range_with_len 0 n (k + 1) 0 (omega arith))

pub passing-rises : (p : ℕ → Bool) (n : ℕ) → IsStrictlyIncreasing (passing p n)
passing-rises p n = IsStrictlyIncreasing-filter p (range_with_len 0 n) (range-rises n)

-- what stands in the list
pub record Passes (p : ℕ → Bool) (n s : ℕ) : Type 0 where
  pub below : s < n
  pub test : p s ≡ true

pub Passes-from : (p : ℕ → Bool) (n s : ℕ) → Contains (passing p n) s → Passes p n s
Passes-from p zero s h = absurd (omega (arith, h.1))
Passes-from p (suc n) s h =
    let e : suc n ≡ n + 1 = omega arith in
    ⊎_elim
    (λ yes. ⊎_elim
    (λ before. let rest = Passes-from p n s before in record { below = omega (arith, rest.below); test = rest.test })
    (λ last. record { below = omega (arith, last); test = ap p (sym last) ∙ yes })
    (Contains-push_cases (passing p n) n s (subst (λ ys. Contains ys s) (ap (passing p) e ∙ passing-yes p n yes) h)))
    (λ no. let rest = Passes-from p n s (subst (λ ys. Contains ys s) (ap (passing p) e
    ∙ passing-no p n no) h) in record { below = omega (arith, rest.below); test = rest.test })
    (cases_Bool (p n))

pub Contains-passing : (p : ℕ → Bool) (n s : ℕ) → s < n → p s ≡ true → Contains (passing p n) s
Contains-passing p zero s below h = absurd (omega arith)
Contains-passing p (suc n) s below h =
    let e : n + 1 ≡ suc n = omega arith in
    subst (λ (k : ℕ). Contains (passing p k) s) e (⊎_elim
    (λ before. subst (λ ys. Contains ys s) (sym (passing-more p n))
    (Contains-append_left (passing p n) (cond (p n) (n ∷ []) []) s (Contains-passing p n s before h)))
    (λ last.
    let own : n ≡ s = omega arith in
    subst (λ ys. Contains ys s) (sym (passing-yes p n (ap p own
    ∙ h))) (subst (λ (k : ℕ). Contains (passing p n ++ n ∷ []) k) own (Contains-push (passing p n) n)))
    (cases_lt s n))
