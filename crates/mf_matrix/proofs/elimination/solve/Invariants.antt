use Rattle.mf_matrix.specs.Elimination.{coefficient, SameSolutions, IsSolvedBelow}
use Rattle.mf_matrix.proofs.elimination.solve.Given as goal

abbrev pub invariant-loop-column : goal.invariant-loop-column
invariant-loop-column l = record {
  same : SameSolutions l.size l.unknowns (coefficient l.fn.equations) (coefficient l.equations);
  solved : IsSolvedBelow l.size (coefficient l.equations) l.column;
}
