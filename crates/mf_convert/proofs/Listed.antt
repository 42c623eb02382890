-- The names of the first generation: the first generation holds each of them, they have different numbers, and each
-- name that it holds is among them.
use Rattle.std.proofs.Common.{◌≡◌, ◌≢◌, ℕ, zero, suc, ◌<◌, Bool, true, false, cond, List, [], ◌∷◌, length, get_or}
use Rattle.std.proofs.Common.{filter, refl, ap, ◌∙◌, subst, arith}
use Rattle.std.specs.List.{AllPairs}
use Rattle.std.proofs.lemmas.Bool.{false≢true}
use Rattle.std.proofs.lemmas.List.{get_or_default}
use Rattle.std.proofs.lemmas.List.Elements.{filter_passes}
use Rattle.std.proofs.lemmas.List.Kept.{AllPairs-filter}
use Rattle.mf_places.specs.declared.Name.{Name}
use Rattle.mf_places.specs.declared.Name.TheVariants.{Data}
use Rattle.mf_places.specs.Facts.{BookFacts}
use Rattle.mf_places.specs.Names.{HasName, all_names, count_of, name_at}
use Rattle.mf_places.specs.Generations.{holds}
use Rattle.mf_places.specs.Numbers.{number_of}
use Rattle.mf_places.proofs.Names.{number_of-name_at, IsAt-number, All-sublist}
use Rattle.mf_convert.specs.Cells.{IsFirst}

-- the names of the first generation, in order
abbrev pub first_of : BookFacts → List Name
first_of b = filter (holds b 0) (all_names b)

pub first_held : (b : BookFacts) (k : ℕ) (d : Name) → k < length (first_of b) → IsFirst b (get_or (first_of b) k d)
first_held b k d low = (
  All-sublist b (holds b 0) (first_of b) refl k d low,
  filter_passes (holds b 0) (all_names b) k d low,
)

pub all_apart : (b : BookFacts) → AllPairs (λ x y. number_of b x ≢ number_of b y) (all_names b)
unfolding name_at count_of
all_apart b i j d less low same =
    let x = (number_of-name_at b i (omega arith)).1 in
    let y = (number_of-name_at b j low).1 in
    let p = ap (number_of b) (get_or_default (all_names b) i d (Data 0) (omega arith)) in
    let q = ap (number_of b) (get_or_default (all_names b) j d (Data 0) low) in
    absurd (omega arith)

pub first_apart : (b : BookFacts) → AllPairs (λ x y. number_of b x ≢ number_of b y) (first_of b)
first_apart b = AllPairs-filter (λ x y. number_of b x ≢ number_of b y) (holds b 0) (all_names b) (all_apart b)

-- what passes the test stands in the filtered list
pub record StandsIn (x d : Name) (xs : List Name) : Type 0 where
  pub place : ℕ
  pub below : place < length xs
  pub is : get_or xs place d ≡ x

with_head : (b : Bool) (x y d : Name) (ys : List Name) → StandsIn y d ys → StandsIn y d (cond b (x ∷ ys) ys)
with_head true x y d ys s = let low = s.below in record { place = suc s.place; below = omega arith; is = s.is }
with_head false x y d ys s = s

at_head : (b : Bool) (x d : Name) (ys : List Name) → b ≡ true → StandsIn x d (cond b (x ∷ ys) ys)
at_head true x d ys e = record { place = 0; below = omega arith; is = refl }
at_head false x d ys e = absurd (false≢true e)

pub found_in : (p : Name → Bool) (xs : List Name) (i : ℕ) (d : Name) → i < length xs → p (get_or xs i d) ≡ true
    → StandsIn (get_or xs i d) d (filter p xs)
found_in p [] i d low h = absurd (omega arith)
found_in p (x ∷ xs) zero d low h = at_head (p x) x d (filter p xs) h
found_in p (x ∷ xs) (suc i) d low h = with_head (p x) x (get_or xs i d) d (filter p xs)
    (found_in p xs i d (omega arith) h)

pub first_found : (b : BookFacts) (x : Name) → HasName b x → holds b 0 x ≡ true → StandsIn x (Data 0) (first_of b)
unfolding name_at count_of
first_found b x had h =
    let at = IsAt-number b x had in
    subst (λ y. StandsIn y (Data 0) (first_of b)) at.at
    (found_in (holds b 0) (all_names b) (number_of b x) (Data 0) at.below (ap (holds b 0) at.at ∙ h))
