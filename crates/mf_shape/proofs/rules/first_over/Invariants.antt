use Rattle.std.proofs.Common.{ℕ, ◌<◌}
use Rattle.mf_shape.specs.Rules.{KeepsLimitAt}
use Rattle.mf_shape.proofs.rules.first_over.Given as goal

abbrev pub invariant-loop-g : goal.invariant-loop-g
invariant-loop-g l = (k : ℕ) → k < l.g → KeepsLimitAt l.stages l.limit k
