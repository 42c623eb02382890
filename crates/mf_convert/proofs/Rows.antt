-- The gets of a row of parities, and their stripes.
use Rattle.std.proofs.Common.{◌≡◌, ℕ, zero, suc, ◌*◌, ◌<◌, List, [], ◌∷◌, ◌++◌, length, take, drop, get_or}
use Rattle.std.proofs.Common.{refl, sym, ap, ◌∙◌, arith}
use Rattle.std.specs.Int.{div_ceil}
use Rattle.std.proofs.Math.Seq.{drop-cons}
use Rattle.std.proofs.Math.Nat.{lt_of_mul-lt-mul_right, mul-le-mul_right, mul_assoc}
use Rattle.std.proofs.lemmas.Grind.{div_ceil_times}
use Rattle.std.proofs.lemmas.List.{take-append-drop}
use Rattle.mf_places.specs.declared.Name.{Name}
use Rattle.mf_vault.specs.Facts.{Facts}
use Rattle.mf_vault.specs.Actor.{Call}
use Rattle.mf_convert.specs.Convert.{gets}

-- a list around its place k
pub around : {X : Type 0} (xs : List X) (k : ℕ) (d : X) → k < length xs
    → xs ≡ take k xs ++ (get_or xs k d ∷ drop (suc k) xs)
around xs k d low = sym (take-append-drop k xs) ∙ ap (λ l. take k xs ++ l) (drop-cons xs k d low)

pub gets_then : (f : Facts) (xs ys : List Name) → gets f (xs ++ ys) ≡ gets f xs ++ gets f ys
gets_then f [] ys = refl
gets_then f (x ∷ xs) ys = λ i. Rattle.mf_vault.specs.Actor.get x
    (Rattle.mf_vault.specs.declared.answers.Got.TheVariants.Here
    (Rattle.mf_vault.specs.Facts.cell_of f x)) ∷ gets_then f xs ys i

-- the gets around place k
pub gets_around : (f : Facts) (xs : List Name) (k : ℕ) (d : Name) → k < length xs
    → gets f xs ≡ gets f (take k xs) ++ (gets f (get_or xs k d ∷ []) ++ gets f (drop (suc k) xs))
gets_around f xs k d low = ap (gets f) (around xs k d low) ∙ gets_then f (take k xs) (get_or xs k d ∷ drop (suc k) xs)

-- the gets of one name more
pub gets_more : (f : Facts) (xs : List Name) (x : Name) → gets f (xs ++ x ∷ []) ≡ gets f xs ++ gets f (x ∷ [])
gets_more f xs x = gets_then f xs (x ∷ [])

-- the stripes that a stripe of the next generation takes in: there is one, and there are few
pub takes_one : (m w t f j : ℕ) → f * w ≡ t → 0 < w → 0 < t → j < div_ceil m t → j * f < div_ceil m w
takes_one m w t f j e narrow wide low =
    let a = (div_ceil_times m t wide).1 in
    let b = (div_ceil_times m w narrow).0 in
    let c = mul-le-mul_right t low in
    let same : j * f * w ≡ j * t = mul_assoc j f w ∙ ap (λ n. j * n) e in
    lt_of_mul-lt-mul_right w (omega arith)

pub factor_some : (w t f : ℕ) → f * w ≡ t → 0 < t → 0 < f
factor_some w t zero e pos = absurd (omega arith)
factor_some w t (suc f) e pos = omega arith
