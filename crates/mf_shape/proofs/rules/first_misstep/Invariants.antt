use Rattle.std.proofs.Common.{ℕ, ◌<◌}
use Rattle.mf_shape.specs.Rules.{KeepsStepAt}
use Rattle.mf_shape.proofs.rules.first_misstep.Given as goal

abbrev pub invariant-loop-g : goal.invariant-loop-g
invariant-loop-g l = (k : ℕ) → k < l.g → KeepsStepAt l.stages l.step k
