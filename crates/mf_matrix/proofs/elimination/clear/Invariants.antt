use Rattle.mf_matrix.specs.Elimination.{coefficient, IsCleared}
use Rattle.mf_matrix.proofs.elimination.clear.Given as goal

abbrev pub invariant-loop-i : goal.invariant-loop-i
invariant-loop-i l = IsCleared l.size l.unknowns l.column l.i (coefficient l.initial.equations)
    (coefficient l.equations)
