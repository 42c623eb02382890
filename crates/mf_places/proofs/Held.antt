-- What a generation holds, as a test and as a fact.
use Rattle.std.proofs.Common.{◌≡◌, ℕ, suc, zero, ◌+◌, ◌<◌, ◌≤◌, List, length, ap, sym, subst, arith, IsTrue}
use Rattle.std.proofs.lemmas.Bool.Decides.{nat_tests}
use Rattle.mf_shape.specs.declared.Stage.{Stage}
use Rattle.mf_shape.specs.Stages.{stage_at, width_at, parities_at, copies_at, copied_width, max_copied_width}
use Rattle.mf_shape.specs.Chain.{IsChain}
use Rattle.mf_shape.proofs.Widths.{copied_width-le-max}
use Rattle.mf_places.specs.declared.Name.{Name}
use Rattle.mf_places.specs.declared.Name.TheVariants as name
use Rattle.mf_places.specs.Facts.{BookFacts, chunks_of}
use Rattle.mf_places.specs.Names.{stripes_of, parities_of, HasName}
use Rattle.mf_places.specs.Generations.{holds}
use Rattle.mf_places.proofs.Counts.{parities_at-le-max}

-- generation g holds the name, as a fact
abbrev pub Holds : BookFacts → ℕ → Name → Type 0
Holds b g (name.Data i) = i < chunks_of b
Holds b g (name.Copy c i) = (c < copies_at b.shape.stages g) × (i < chunks_of b)
Holds b g (name.Parity width j p) = (width ≡ width_at b.shape.stages g) × (j < stripes_of b width)
    × (p < parities_at b.shape.stages g)

pub Holds-from : (b : BookFacts) (g : ℕ) (x : Name) → IsTrue (holds b g x) → Holds b g x
Holds-from b g (name.Data i) h = grind (arith, nat_tests)
Holds-from b g (name.Copy c i) h = grind (arith, nat_tests)
Holds-from b g (name.Parity width j p) h = grind (arith, nat_tests)

pub holds-from : (b : BookFacts) (g : ℕ) (x : Name) → Holds b g x → IsTrue (holds b g x)
holds-from b g (name.Data i) h = grind (arith, nat_tests)
holds-from b g (name.Copy c i) h = grind (arith, nat_tests)
holds-from b g (name.Parity width j p) h = grind (arith, nat_tests)

-- ---- along a chain

-- what does not grow at a step is greatest at the first stage
falls : (f : ℕ → ℕ) (q : ℕ) → ((g : ℕ) → g + 1 < q → f (g + 1) ≤ f g) → (g : ℕ) → g < q → f g ≤ f 0
falls f q step zero h = omega arith
falls f q step (suc g) h =
    let here : f (g + 1) ≤ f g = step g (omega arith) in
    let e : f (suc g) ≡ f (g + 1) = ap f (omega arith) in
    omega (arith, falls f q step g (omega arith))

pub copies_at-le-first : {s : List Stage} → IsChain s → (g : ℕ) → g < length s → copies_at s g ≤ copies_at s 0
copies_at-le-first {s} chain g h = falls (copies_at s) (length s) (λ k below. (chain.steps k below).copies) g h

pub parities_at-le-first : {s : List Stage} → IsChain s → (g : ℕ) → g < length s → parities_at s g ≤ parities_at s 0
parities_at-le-first {s} chain g h = falls (parities_at s) (length s) (λ k below. (chain.steps k below).parities) g h

copied_width-own : (stage : Stage) → 0 < stage.copies → stage.width ≤ copied_width stage
copied_width-own stage h = grind (arith, nat_tests)

-- a stage with copies is at most as wide as the widest of these
pub width_at-le-max_copied : (s : List Stage) (g : ℕ) → g < length s → 0 < copies_at s g
    → width_at s g ≤ max_copied_width s
width_at-le-max_copied s g h some =
    omega (arith, copied_width-own (stage_at s g) some, copied_width-le-max s g h)

-- what a generation holds the file has
pub HasName-from_holds : (b : BookFacts) → IsChain b.shape.stages → (g : ℕ) → g < length b.shape.stages → (x : Name)
    → Holds b g x → HasName b x
HasName-from_holds b chain g below (name.Data i) h = h
HasName-from_holds b chain g below (name.Copy c i) h = (omega (arith, copies_at-le-first chain g below, h.0), h.1)
HasName-from_holds b chain g below (name.Parity width j p) h =
    let P : ℕ → Type 0 = λ w. p < parities_of b w in
    (h.1, subst P (sym h.0) (omega (arith, parities_at-le-max b.shape.stages g below, h.2)))
