use Rattle.std.proofs.Common.{ℕ, ◌<◌}
use Rattle.mf_check.specs.Families.{IsStageDecodable}
use Rattle.mf_check.proofs.check.Given as goal

abbrev pub invariant-loop-g : goal.invariant-loop-g
invariant-loop-g l = (h : ℕ) → h < l.g → IsStageDecodable l.shape.stages l.points h
