-- A parity of the next generation, from those that it is merged from.
use Rattle.std.proofs.Common.{◌≡◌, ℕ, ◌+◌, ◌-◌, ◌*◌, ◌/◌, ◌%◌, ◌<◌, ◌≤◌, true, List, [], length, map, get_or, All}
use Rattle.std.proofs.Common.{refl, sym, ap}
use Rattle.std.proofs.Common.{◌∙◌, subst, arith}
use Rattle.std.specs.List.{range_with_len}
use Rattle.std.proofs.Math.Nat.{mod-eq-sub-div-mul, div-mul-le_self}
use Rattle.std.proofs.lemmas.Nat.{mul-le}
use Rattle.std.proofs.lemmas.Simd.{map-map}
use Rattle.std.proofs.lemmas.List.Elements.{All-map}
use Rattle.std.proofs.lemmas.List.FromFn.{length-map-range_with_len}
use Rattle.mf_code.specs.Chunks.{parity}
use Rattle.mf_code.specs.Stripes.{narrow_stripes, narrow_parities}
use Rattle.mf_code.proofs.Lists.{length-parity}
use Rattle.mf_merge.specs.Merged.{first_length}
use Rattle.mf_shape.specs.Stages.{width_at, parities_at}
use Rattle.mf_places.specs.declared.Name.TheVariants as name
use Rattle.mf_places.specs.Facts.{BookFacts}
use Rattle.mf_places.specs.Generations.{holds}
use Rattle.mf_places.proofs.Held.{parities_at-le-first}
use Rattle.mf_vault.specs.Facts.{Facts, cell_of, stages}
use Rattle.mf_vault.specs.Licence.{IsFile}
use Rattle.mf_convert.specs.Convert.{factor_at, sources}
use Rattle.mf_convert.specs.Converting.{row_of, IsNextParity, TakesIn}
use Rattle.mf_convert.proofs.Next.{held_test}

-- the wide stripe is as wide as the narrow ones that it takes in together
whole_times : (n m : ℕ) → n % m ≡ 0 → n / m * m ≡ n
whole_times n m e = let a = mod-eq-sub-div-mul n m in let b = div-mul-le_self n m in omega arith

pub factor_whole : (f : Facts) (g : ℕ) → IsFile f → g + 1 < stages f
    → factor_at f.book g * width_at f.book.shape.stages g ≡ width_at f.book.shape.stages (g + 1)
factor_whole f g file low =
    whole_times (width_at f.book.shape.stages (g + 1)) (width_at f.book.shape.stages g)
    (file.layout.shape.chain.steps g low).width

pub factor_low : (w t f : ℕ) → f * w ≡ t → 0 < w → t ≤ 64 → f ≤ 64
factor_low w t f e pos low = let a = mul-le f 1 f w (omega arith) pos in omega arith

pub factor_few : (f : Facts) (g : ℕ) → IsFile f → g + 1 < stages f → factor_at f.book g ≤ 64
factor_few f g file low =
    factor_low (width_at f.book.shape.stages g) (width_at f.book.shape.stages (g + 1)) (factor_at f.book g)
    (factor_whole f g file low)
    (file.layout.shape.chain.widths g (omega arith)).0 (file.layout.shape.chain.widths (g + 1) low).1

-- a point for each parity
pub point_there : (f : Facts) (g p : ℕ) (points : List ℕ) → IsFile f → g + 1 < stages f
    → p < parities_at f.book.shape.stages (g + 1) → f.book.points ≡ points → p < length points
point_there f g p points file low below e =
    let a = parities_at-le-first file.layout.shape.chain (g + 1) low in
    let b = file.layout.points in
    let n = ap length e in omega arith

-- generation g has the parities that are merged
pub narrow_held : (f : Facts) (g j p w first end i : ℕ) → IsFile f → g + 1 < stages f → IsNextParity f.book g j p
    → w ≡ width_at f.book.shape.stages g → TakesIn f.book g j first end → i < end
    → holds f.book g (name.Parity w i p) ≡ true
narrow_held f g j p w first end i file low next wide t below =
    subst (λ n. holds f.book g (name.Parity n i p) ≡ true) (sym wide)
    (held_test f.book g (name.Parity (width_at f.book.shape.stages g) i p) (
      refl,
      (let a = t.there in omega arith),
      (let a = (file.layout.shape.chain.steps g low).parities in let b = next.point in omega arith),
    ))

-- what is got for a row
pub sources_are : (b : BookFacts) (g j p w first end : ℕ) → w ≡ width_at b.shape.stages g → TakesIn b g j first end
    → row_of w p first (end - first) ≡ sources b g j p
sources_are b g j p w first end e t =
    ap (λ n. row_of n p first (end - first)) e ∙ ap (map (λ i. name.Parity (width_at b.shape.stages g) i p)) t.stripes

-- cells of a row
abbrev pub AreCells : (f : Facts) (w p first end : ℕ) → List (List ℕ) → Type 0
AreCells f w p first end cells = cells ≡ map (cell_of f) (row_of w p first (end - first))

make_each : (f : Facts) (w p first end : ℕ) (cells : List (List ℕ)) → AreCells f w p first end cells
    → cells ≡ map (parity f.book.chunk f.bytes (get_or f.book.points p 0) w) (range_with_len first (end - first))
make_each f w p first end cells is =
    is ∙ map-map (cell_of f) (λ i. name.Parity w i p) (range_with_len first (end - first))

-- they are the narrow parities
pub row_is : (f : Facts) (g j p w first end : ℕ) (cells : List (List ℕ)) → IsFile f
    → w ≡ width_at f.book.shape.stages g → TakesIn f.book g j first end → AreCells f w p first end cells
    → cells ≡ narrow_parities f.book.chunk f.bytes (get_or f.book.points p 0) w (factor_at f.book g) j
unfolding narrow_parities
row_is f g j p w first end cells file e t is =
    let make = parity f.book.chunk f.bytes (get_or f.book.points p 0) w in
    make_each f w p first end cells is
    ∙ (ap (map make) t.stripes
    ∙ (ap (λ n. map make (narrow_stripes f.book.chunk f.book.bytes n (factor_at f.book g) j)) (sym e)
    ∙ ap (λ n. map make (narrow_stripes f.book.chunk n w (factor_at f.book g) j)) (sym file.long)))

pub row_long : (f : Facts) (w p first end : ℕ) (cells : List (List ℕ)) → AreCells f w p first end cells
    → length cells ≡ end - first
row_long f w p first end cells is = ap length (make_each f w p first end cells is)
    ∙ length-map-range_with_len (parity f.book.chunk f.bytes (get_or f.book.points p 0) w) first (end - first)

each_long : (f : Facts) (w p first end : ℕ) (cells : List (List ℕ)) → AreCells f w p first end cells
    → All (λ x. length x ≡ f.book.chunk) cells
each_long f w p first end cells is =
    subst (λ (l : List (List ℕ)). All (λ x. length x ≡ f.book.chunk) l) (sym (make_each f w p first end cells is))
    (All-map (λ x. length x ≡ f.book.chunk) (parity f.book.chunk f.bytes (get_or f.book.points p 0) w)
    (range_with_len first (end - first))
    (λ k d low. length-parity f.book.chunk f.bytes (get_or f.book.points p 0) w
    (get_or (range_with_len first (end - first)) k d)))

pub one_length : (f : Facts) (w p first end : ℕ) (cells : List (List ℕ)) → first < end
    → AreCells f w p first end cells → All (λ x. length x ≡ first_length cells) cells
one_length f w p first end cells some is =
    let all = each_long f w p first end cells is in
    let long = row_long f w p first end cells is in
    subst (λ k. All (λ x. length x ≡ k) cells) (sym (all 0 [] (omega arith))) all

pub row_some : (f : Facts) (g j w p first end : ℕ) (cells : List (List ℕ)) → TakesIn f.book g j first end
    → AreCells f w p first end cells
    → 1 ≤ length cells
row_some f g j w p first end cells t is = let n = row_long f w p first end cells is in let some = t.some in omega arith

pub row_few : (f : Facts) (g j w p first end : ℕ) (cells : List (List ℕ)) → IsFile f → g + 1 < stages f
    → TakesIn f.book g j first end → AreCells f w p first end cells → length cells ≤ 64
row_few f g j w p first end cells file low t is =
    let n = row_long f w p first end cells is in
    let most = t.most in
    let few = factor_few f g file low in omega arith

-- the parity of the wide stripe is the cell
pub wide_cell : (f : Facts) (g j p w : ℕ) (cell : List ℕ) → IsFile f → g + 1 < stages f
    → w ≡ width_at f.book.shape.stages g
    → cell ≡ parity f.book.chunk f.bytes (get_or f.book.points p 0) (factor_at f.book g * w) j
    → cell ≡ cell_of f (name.Parity (width_at f.book.shape.stages (g + 1)) j p)
wide_cell f g j p w cell file low e is =
    is ∙ ap (λ n. parity f.book.chunk f.bytes (get_or f.book.points p 0) n j)
    (ap (λ n. factor_at f.book g * n) e ∙ factor_whole f g file low)
