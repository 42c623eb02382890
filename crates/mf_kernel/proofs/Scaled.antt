-- Products by 0 and by 1.
use Rattle.std.proofs.Common.{◌≡◌, ℕ, suc, List, [], ◌∷◌, length, get_or, map, replicate, refl, sym, ap, ap₂, ◌∙◌, Fits}
use Rattle.std.proofs.Common.{w8}
use Rattle.mf_code.specs.Field.{times}
use Rattle.mf_field.proofs.FieldLaws.{zero-times, one-times}

pub by_zero : (c : ℕ) (xs : List ℕ) → c ≡ 0 → replicate (length xs) 0 ≡ map (times c) xs
by_zero c [] e = refl
by_zero c (x ∷ xs) e = ap₂ (λ (a : ℕ) (l : List ℕ). a ∷ l) (sym (ap (λ (f : ℕ). times f x) e ∙ zero-times x))
    (by_zero c xs e)

pub by_one : (c : ℕ) (xs : List ℕ) → c ≡ 1 → ((k : ℕ) → Fits w8 (get_or xs k 0)) → xs ≡ map (times c) xs
by_one c [] e fits = refl
by_one c (x ∷ xs) e fits =
    ap₂ (λ (a : ℕ) (l : List ℕ). a ∷ l) (sym (ap (λ (f : ℕ). times f x) e ∙ one-times x (fits 0).fits))
    (by_one c xs e (λ k. fits (suc k)))
