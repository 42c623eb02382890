-- Lists of numbers, index by index.
use mathlib.Core.Logic.{dite}
use native.Mathlib.Decide.{ℕ_discrete}
use Rattle.std.proofs.Common.{◌≡◌, ◌≢◌, ℕ, zero, suc, ◌<◌, ◌⊎◌, List, [], ◌∷◌, length, map, get_or, refl, sym, ◌∙◌, ap₂}
use Rattle.std.proofs.Common.{subst, inl, inr, ⊎_elim, arith}
use Rattle.std.specs.Prelude.{All, Contains}
use Rattle.std.specs.List.Sorted.{IsStrictlyIncreasing}
use Rattle.std.proofs.lemmas.Bool.{cases_lt}
use Rattle.std.proofs.lemmas.List.{get_or_default, get_or_past}
use Rattle.std.proofs.lemmas.List.Kept.{AllPairs-from_increasing}

-- an element by its index
pub contains_at : (xs : List ℕ) (x : ℕ) → Contains xs x → (j : ℕ) × (j < length xs) × (get_or xs j 0 ≡ x)
contains_at xs x c = (c.0, c.1, get_or_default xs c.0 0 x c.1 ∙ c.2)

pub at_contains : (xs : List ℕ) (j : ℕ) → j < length xs → Contains xs (get_or xs j 0)
at_contains xs j lt = (j, lt, get_or_default xs j (get_or xs j 0) 0 lt)

-- the elements of a rising list differ
pub rising_differ : (xs : List ℕ) → IsStrictlyIncreasing xs → (i j : ℕ) → i < length xs → j < length xs → i ≢ j
    → get_or xs i 0 ≢ get_or xs j 0
rising_differ xs r i j li lj d = elim (cases_lt i j) [
  | inl low ↦ (let h : get_or xs i 0 < get_or xs j 0 = AllPairs-from_increasing xs r i j 0 low lj in λ e. omega arith)
  | inr high ↦ (let h : get_or xs j 0 < get_or xs i 0 = AllPairs-from_increasing xs r j i 0 (omega arith) li in
      λ e. omega arith)
]

-- a number is one of the first n values, or none of them
pub find_in : (n : ℕ) (f : ℕ → ℕ) (t : ℕ) → ((j : ℕ) × (j < n) × (f j ≡ t)) ⊎ ((j : ℕ) → j < n → f j ≢ t)
find_in zero f t = inr (λ j l. absurd (omega arith))
find_in (suc n) f t = dite (ℕ_discrete (f n) t)
    (λ e. inl (n, omega arith, e))
    (λ ne. ⊎_elim
    (λ found. let l : found.0 < n = found.1 in inl (found.0, omega arith, found.2))
    (λ none. inr (λ j l. dite (ℕ_discrete j n) (λ e. subst (λ (m : ℕ). f m ≢ t) (sym e) ne)
    (λ d. none j (omega arith))))
    (find_in n f t))

-- each byte of a list of bytes, and what is past its end
pub byte_at : (xs : List ℕ) → All (λ b. b < 256) xs → (k : ℕ) → get_or xs k 0 < 256
byte_at xs h k = elim (cases_lt k (length xs)) [
  | inl low ↦ h k 0 low
  | inr high ↦ subst (λ v. v < 256) (sym (get_or_past xs k 0 high)) (omega arith)
]

-- functions that agree make the same list
pub map-same : {A B : Type 0} (f g : A → B) → ((x : A) → f x ≡ g x) → (xs : List A) → map f xs ≡ map g xs
map-same f g same [] = refl
map-same f g same (x ∷ xs) = ap₂ (λ (y : _) (ys : _). y ∷ ys) (same x) (map-same f g same xs)
