-- How many parities there are.
use Rattle.std.proofs.Common.{◌≡◌, ℕ, suc, zero, ◌+◌, ◌*◌, ◌/◌, ◌%◌, ◌<◌, ◌≤◌, max, cond, eqb, List, [], ◌∷◌, ◌++◌}
use Rattle.std.proofs.Common.{length, take, get_or, refl, ap, ◌∙◌, sym, subst, ⊎_elim, arith}
use Rattle.std.proofs.lemmas.Bool.{cases_lt}
use Rattle.std.proofs.lemmas.Grind.{div_ceil_times}
use Rattle.std.proofs.lemmas.Bool.Decides.{nat_tests}
use Rattle.std.proofs.lemmas.List.Recursion.{max_bounds, max_least, max_push}
use Rattle.std.proofs.lemmas.List.{take_more, length_push, get_or_append_left, get_or_push}
use Rattle.std.proofs.lemmas.Nat.{mul-le, div_below, mod_below}
use Rattle.std.proofs.Math.Nat.{mul-le-mul_left, mul-le-mul_right}
use Rattle.std.specs.Int.{div_ceil}
use Rattle.mf_shape.specs.declared.Stage.{Stage}
use Rattle.mf_shape.specs.Stages.{no_stage, stage_at, width_at, parities_at, copies_at, max_width}
use Rattle.mf_shape.specs.Chain.{IsChain}
use Rattle.mf_places.specs.Names.{max_parities}
use Rattle.mf_places.specs.Numbers.{parities_in, parities_below, first_in}
use Rattle.mf_places.specs.Rows.{IsFirsts}

-- a stage's parities where it is of the width
abbrev pub counted : ℕ → Stage → ℕ
counted width stage = cond (eqb stage.width width) stage.parities 0

-- what bounds the parities of each stage of the width bounds the greatest
pub max_parities-le : (width : ℕ) (s : List Stage) (m : ℕ) → ((g : ℕ) → g < length s → counted width (stage_at s g) ≤ m)
    → max_parities width s ≤ m
max_parities-le width s m h = max_least (max_parities width) (counted width) refl (λ _ _. refl) s no_stage m h

-- one stage more
pub max_parities-more : (width : ℕ) (s : List Stage) (i : ℕ) → i < length s
    → max_parities width (take (i + 1) s) ≡ max (max_parities width (take i s)) (counted width (stage_at s i))
max_parities-more width s i h =
    ap (max_parities width) (take_more s i no_stage h)
    ∙ max_push (max_parities width) (counted width) refl (λ _ _. refl) (take i s) (stage_at s i)

counted-le : (width : ℕ) (stage : Stage) → counted width stage ≤ stage.parities
counted-le width stage = grind (arith, nat_tests)

counted-none : (stage : Stage) → 1 ≤ stage.width → counted 0 stage ≤ 0
counted-none stage h = grind (arith, nat_tests)

counted-own : (stage : Stage) → counted stage.width stage ≡ stage.parities
counted-own stage = grind (arith, nat_tests)

-- a stage has at most as many parities as its width
pub parities_at-le-max : (s : List Stage) (g : ℕ) → g < length s → parities_at s g ≤ max_parities (width_at s g) s
parities_at-le-max s g h =
    let e = counted-own (stage_at s g) in
    let bound = max_bounds (max_parities (width_at s g)) (counted (width_at s g)) refl (λ _ _. refl) s g no_stage h in
    omega arith

-- a chain has at most four parities at any width, and none at width 0
pub max_parities-le-four : {s : List Stage} → IsChain s → (width : ℕ) → max_parities width s ≤ 4
max_parities-le-four {s} chain width =
    max_parities-le width s 4 (λ g h. omega (arith, counted-le width (stage_at s g), (chain.parities g h).1))

pub max_parities-zero : {s : List Stage} → IsChain s → max_parities 0 s ≡ 0
max_parities-zero {s} chain =
    omega (arith, max_parities-le 0 s 0 (λ g h. counted-none (stage_at s g) (chain.widths g h).0))

-- a width that has parities is a stage's, and at most the greatest
max_parities-step : (width a p rest widest : ℕ) → (0 < rest → width ≤ widest) → 0 < max (cond (eqb a width) p 0) rest
    → width ≤ max a widest
max_parities-step width a p rest widest ih h = grind (arith, nat_tests)

pub max_parities-some : (width : ℕ) (s : List Stage) → 0 < max_parities width s → width ≤ max_width s
max_parities-some width [] h = absurd (omega arith)
max_parities-some width (x ∷ rest) h =
    max_parities-step width x.width x.parities (max_parities width rest) (max_width rest) (max_parities-some width rest)
    h

-- m chunks make at most m stripes
pub div_ceil-le : (m width : ℕ) → 0 < width → div_ceil m width ≤ m
div_ceil-le m width h = ⊎_elim
    (λ more.
    let times = (div_ceil_times m width h).1 in
    let wide : suc m * width ≤ div_ceil m width * width = mul-le-mul_right width more in
    let own : m * 1 ≤ m * width = mul-le-mul_left m h in
    absurd (omega arith))
    (λ fine. fine)
    (cases_lt m (div_ceil m width))

-- the parities of one width
pub parities_in-le : {s : List Stage} → IsChain s → (m width : ℕ) → m ≤ 1024 → parities_in m s width ≤ 4096
parities_in-le {s} chain m zero h = rw (max_parities-zero chain) (omega arith)
parities_in-le {s} chain m (suc width) h =
    mul-le _ _ 1024 4 (omega (arith, div_ceil-le m (suc width) (omega arith))) (max_parities-le-four chain (suc width))

pub parities_below-le : {s : List Stage} → IsChain s → (m width : ℕ) → m ≤ 1024
    → parities_below m s width ≤ width * 4096
parities_below-le chain m zero h = omega arith
parities_below-le {s} chain m (suc width) h =
    omega (arith, parities_below-le chain m width h, parities_in-le chain m width h)

-- more widths have no fewer parities
pub parities_below-grows : (m : ℕ) (s : List Stage) (a b : ℕ) → a ≤ b → parities_below m s a ≤ parities_below m s b
parities_below-grows m s a zero h = let e : a ≡ 0 =
    omega arith in subst (λ (x : ℕ). parities_below m s x ≤ 0) (sym e) (omega arith)
parities_below-grows m s a (suc b) h = ⊎_elim
    (λ below. omega (arith, parities_below-grows m s a b (omega arith)))
    (λ above. let e : a ≡ suc b =
    omega arith in subst (λ (x : ℕ). parities_below m s x ≤ parities_below m s (suc b)) (sym e) (omega arith))
    (cases_lt a (suc b))

-- a number below the parities of the widths below n is one of some width
pub parities_below-find : (m : ℕ) (s : List Stage) (n k : ℕ) → k < parities_below m s n
    → (width : ℕ) × (width < n) × (parities_below m s width ≤ k)
    × (k < parities_below m s width + parities_in m s width)
parities_below-find m s zero k h = absurd (omega arith)
parities_below-find m s (suc n) k h = ⊎_elim
    (λ below. let found = parities_below-find m s n k below in (found.0, omega (arith, found.1), found.2, found.3))
    (λ here. (n, omega arith, here, h))
    (cases_lt k (parities_below m s n))

-- one width more
pub first_in-more : (m : ℕ) (s : List Stage) (width : ℕ)
    → first_in m s (width + 1) ≡ first_in m s width + parities_in m s width
first_in-more m s width =
    let e : width + 1 ≡ suc width = omega arith in
    ap (first_in m s) e ∙ omega arith

-- no number is large
pub first_in-le : {s : List Stage} → IsChain s → (m width : ℕ) → m ≤ 1024 → width ≤ 65 → first_in m s width ≤ 300000
first_in-le {s} chain m width short narrow =
    omega (
      arith,
      parities_below-le chain m width short,
      mul-le (copies_at s 0) m 2 1024 (chain.copies 0 chain.some) short,
    )

-- the table of first numbers, one width more
pub IsFirsts-more : (m : ℕ) (s : List Stage) (n : ℕ) (v : List ℕ) (first : ℕ) → IsFirsts m s n v
    → first ≡ first_in m s n → IsFirsts m s (n + 1) (v ++ first ∷ [])
IsFirsts-more m s n v first table e = record {
  count = omega (arith, length_push v first, table.count);
  first = λ width below. ⊎_elim
      (λ old. get_or_append_left v (first ∷ []) 0 width (omega (arith, table.count)) ∙ table.first width (omega arith))
      (λ new.
      let last : width ≡ n = omega arith in
      ap (λ k. get_or (v ++ first ∷ []) k 0) last ∙ get_or_push v first 0 n table.count ∙ e
      ∙ ap (first_in m s) (sym last))
      (cases_lt width n);
}

-- a width that has parities is not 0
pub width-some : {s : List Stage} → IsChain s → (width : ℕ) → 0 < max_parities width s → 0 < width
width-some chain zero h = absurd (omega (arith, max_parities-zero chain))
width-some chain (suc width) h = omega arith

-- a number among the parities of a width has a stripe and a point
pub parity-parts : (stripes r at : ℕ) → at < stripes * r → (at / r < stripes) × (at % r < r)
parity-parts stripes zero at below = absurd (omega arith)
parity-parts stripes (suc r) at below = (
  div_below at (suc r) stripes (omega arith) below,
  mod_below at (suc r) (omega arith),
)
