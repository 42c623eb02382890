-- The greatest widths of a list of stages.
use Rattle.std.proofs.Common.{◌≡◌, ℕ, ◌+◌, ◌<◌, ◌≤◌, max, List, length, take, refl, ap, ◌∙◌, arith}
use Rattle.std.proofs.lemmas.List.{take_more}
use Rattle.std.proofs.lemmas.List.Recursion.{max_bounds, max_least, max_push}
use Rattle.mf_shape.specs.declared.Stage.{Stage}
use Rattle.std.proofs.lemmas.Bool.Decides.{nat_tests}
use Rattle.mf_shape.specs.Chain.{IsChain}
use Rattle.mf_shape.specs.Stages.{no_stage, stage_at, width_at, copied_width, max_width, max_copied_width}

-- one stage more
pub max_width-more : (s : List Stage) (i : ℕ) → i < length s
    → max_width (take (i + 1) s) ≡ max (max_width (take i s)) (width_at s i)
max_width-more s i h =
    ap max_width (take_more s i no_stage h)
    ∙ max_push max_width (λ x. x.width) refl (λ _ _. refl) (take i s) (stage_at s i)

pub max_copied_width-more : (s : List Stage) (i : ℕ) → i < length s
    → max_copied_width (take (i + 1) s) ≡ max (max_copied_width (take i s)) (copied_width (stage_at s i))
max_copied_width-more s i h =
    ap max_copied_width (take_more s i no_stage h)
    ∙ max_push max_copied_width copied_width refl (λ _ _. refl) (take i s) (stage_at s i)

-- no stage is wider than the greatest width
pub width_at-le-max_width : (s : List Stage) (g : ℕ) → g < length s → width_at s g ≤ max_width s
width_at-le-max_width s g h = max_bounds max_width (λ x. x.width) refl (λ _ _. refl) s g no_stage h

-- nor any stage with copies than the greatest of these
pub copied_width-le-max : (s : List Stage) (g : ℕ) → g < length s → copied_width (stage_at s g) ≤ max_copied_width s
copied_width-le-max s g h = max_bounds max_copied_width copied_width refl (λ _ _. refl) s g no_stage h

-- what bounds each width bounds the greatest
pub max_width-le : (s : List Stage) (m : ℕ) → ((g : ℕ) → g < length s → width_at s g ≤ m) → max_width s ≤ m
max_width-le s m h = max_least max_width (λ x. x.width) refl (λ _ _. refl) s no_stage m h

pub max_copied_width-le : (s : List Stage) (m : ℕ) → ((g : ℕ) → g < length s → copied_width (stage_at s g) ≤ m)
    → max_copied_width s ≤ m
max_copied_width-le s m h = max_least max_copied_width copied_width refl (λ _ _. refl) s no_stage m h

-- a stage's copies are of its width, if it has any
pub copied_width-le-width : (x : Stage) → copied_width x ≤ x.width
copied_width-le-width x = grind (arith, nat_tests)

-- where widths are within their limit, so are the greatest ones
pub max_copied_width-le-limit : {s : List Stage} → IsChain s → max_copied_width s ≤ 64
max_copied_width-le-limit {s} chain =
    max_copied_width-le s 64 (λ g h. omega (arith, copied_width-le-width (stage_at s g), (chain.widths g h).1))

pub max_width-le-limit : {s : List Stage} → IsChain s → max_width s ≤ 64
max_width-le-limit {s} chain = max_width-le s 64 (λ g h. (chain.widths g h).1)

pub one-le-max_width : {s : List Stage} → IsChain s → 1 ≤ max_width s
one-le-max_width {s} chain =
    omega (arith, width_at-le-max_width s 0 chain.some, (chain.widths 0 chain.some).0)
