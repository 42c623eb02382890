use Rattle.std.proofs.Common.{◌≡◌, ℕ, ◌<◌}
use Rattle.mf_matrix.specs.Elimination.{coefficient}
use Rattle.mf_matrix.proofs.elimination.leading.Given as goal

abbrev pub invariant-loop-i : goal.invariant-loop-i
invariant-loop-i l = (k : ℕ) → k < l.i → coefficient l.equations k l.column ≡ 0
