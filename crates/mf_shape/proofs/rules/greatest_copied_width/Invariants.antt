use Rattle.std.proofs.Common.{◌≡◌, take}
use Rattle.mf_shape.specs.Stages.{max_copied_width}
use Rattle.mf_shape.proofs.rules.greatest_copied_width.Given as goal

abbrev pub invariant-loop-stage : goal.invariant-loop-stage
invariant-loop-stage l = l.greatest ≡ max_copied_width (take l.stage-index l.stages)
