use Rattle.std.proofs.Common.{◌<◌, ℕ, Option, Some, None, Vec, List, length, take, subst}
use Rattle.std.specs.Global.{Global}
use Rattle.mf_shape.specs.declared.Stage.{Stage}
use Rattle.mf_shape.specs.Stages.{stage_at, parities_at}
use Rattle.mf_check.specs.Families.{ArePoints}
use Rattle.mf_check.specs.Search.{StageAnswer}
use Rattle.mf_check.proofs.Stages.{IsUndecodable-found, one_stage_more}
use Rattle.mf_check.proofs.check.Goals as goal

-- what was answered for a stage that was read from a list of stages
abbrev answered : List ℕ → ℕ → Option (Vec ℕ Global × List ℕ) → List Stage → Type 0
answered points g o stages = StageAnswer (take (stage_at stages g).parities points) (stage_at stages g).width o

pub returns-in-Some-2-clause-fault : goal.returns-in-Some-2-clause-fault
returns-in-Some-2-clause-fault c =
    let stages = c.args.shape.now.stages in
    let points = c.args.points.now in
    let g = c.loop-g.g in
    let read_is = c.stages-stages.ensures.value in
    let found : Vec ℕ Global × List ℕ = (c.in-Some-2.items, c.in-Some-2.kernel) in
    let read : answered points g (Some found) c.stages-stages.result.now =
    subst (λ (o : Option (Vec ℕ Global × List ℕ)). answered points g o c.stages-stages.result.now) c.in-Some-2.is
    c.in_ok-items.ensures in
    let good : ArePoints (parities_at stages 0) points = subst (λ (l : List Stage). ArePoints (parities_at l 0) points)
    read_is c.in_default.ensures in (
      good,
      IsUndecodable-found stages points c.stages-stages.ensures.kept.chain good g
          (subst (λ (l : List Stage). g < length l) read_is c.loop-g-test.true) found c.loop-g.invariant
          (subst (answered points g (Some found)) read_is read),
    )

pub loop-g-preserved : goal.loop-g-preserved
loop-g-preserved c =
    let stages = c.args.shape.now.stages in
    let points = c.args.points.now in
    let g = c.loop-g.g in
    let read : answered points g None c.stages-stages.result.now =
    subst (λ (o : Option (Vec ℕ Global × List ℕ)). answered points g o c.stages-stages.result.now) c.in_default-2.is
    c.in_ok-items.ensures in
    one_stage_more stages points g c.loop-g.invariant
    (subst (answered points g None) c.stages-stages.ensures.value read)
