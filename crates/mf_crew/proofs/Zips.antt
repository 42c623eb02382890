-- Two lists whose elements stand in a relation, place by place.
use Rattle.std.proofs.Common.{◌≡◌, ℕ, zero, suc, ◌<◌, List, [], ◌∷◌, ◌++◌, length, map, get_or, set, refl, ap}
use Rattle.std.proofs.Common.{arith}
use Rattle.std.specs.List.{AllZip}

pub zip_length : {A B : Type 0} (R : A → B → Type 0) (xs : List A) (ys : List B) → AllZip R xs ys
    → length xs ≡ length ys
zip_length R [] [] z = refl
zip_length R [] (y ∷ ys) z = absurd z
zip_length R (x ∷ xs) [] z = absurd z
zip_length R (x ∷ xs) (y ∷ ys) z = ap suc (zip_length R xs ys z.1)

pub zip_at : {A B : Type 0} (R : A → B → Type 0) (xs : List A) (ys : List B) (i : ℕ) (d : A) (e : B) → AllZip R xs ys
    → i < length ys → R (get_or xs i d) (get_or ys i e)
zip_at R [] [] i d e z low = absurd (omega (arith, low))
zip_at R [] (y ∷ ys) i d e z low = absurd z
zip_at R (x ∷ xs) [] i d e z low = absurd z
zip_at R (x ∷ xs) (y ∷ ys) zero d e z low = z.0
zip_at R (x ∷ xs) (y ∷ ys) (suc i) d e z low = zip_at R xs ys i d e z.1 (omega (arith, low))

pub zip_set : {A B : Type 0} (R : A → B → Type 0) (xs : List A) (ys : List B) (i : ℕ) (x : A) (e : B) → AllZip R xs ys
    → R x (get_or ys i e) → AllZip R (set xs i x) ys
zip_set R [] [] i x e z r = z
zip_set R [] (y ∷ ys) i x e z r = absurd z
zip_set R (w ∷ xs) [] i x e z r = absurd z
zip_set R (w ∷ xs) (y ∷ ys) zero x e z r = (r, z.1)
zip_set R (w ∷ xs) (y ∷ ys) (suc i) x e z r = (z.0, zip_set R xs ys i x e z.1 r)

pub zip_push : {A B : Type 0} (R : A → B → Type 0) (xs : List A) (ys : List B) (x : A) (y : B) → AllZip R xs ys → R x y
    → AllZip R (xs ++ x ∷ []) (ys ++ y ∷ [])
zip_push R [] [] x y z r = (r, tt)
zip_push R [] (w ∷ ys) x y z r = absurd z
zip_push R (v ∷ xs) [] x y z r = absurd z
zip_push R (v ∷ xs) (w ∷ ys) x y z r = (z.0, zip_push R xs ys x y z.1 r)

-- where the relation is an equation, two mapped lists are one
pub zip_map : {A B C : Type 0} (R : A → B → Type 0) (f : A → C) (g : B → C) (xs : List A) (ys : List B)
    → ((x : A) (y : B) → R x y → f x ≡ g y) → AllZip R xs ys → map f xs ≡ map g ys
zip_map R f g [] [] same z = refl
zip_map R f g [] (y ∷ ys) same z = absurd z
zip_map R f g (x ∷ xs) [] same z = absurd z
zip_map R f g (x ∷ xs) (y ∷ ys) same z =
    let one = same x y z.0 in let rest = zip_map R f g xs ys same z.1 in λ i. one i ∷ rest i
