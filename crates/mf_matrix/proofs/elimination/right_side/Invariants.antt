use Rattle.std.proofs.Common.{◌+◌}
use Rattle.mf_matrix.specs.Elimination.{coefficient}
use Rattle.mf_matrix.specs.Matrix.{IsGrid}
use Rattle.mf_matrix.proofs.Grids.{FilledTo}
use Rattle.mf_matrix.proofs.elimination.right_side.Given as goal

abbrev pub invariant-loop-i : goal.invariant-loop-i
invariant-loop-i l = record {
  so_far : FilledTo l.size l.size (λ i j. coefficient l.equations i (l.size + j)) l.i 0 l.matrix;
  kept : IsGrid l.matrix;
}

abbrev pub invariant-loop-j : goal.invariant-loop-j
invariant-loop-j l = record {
  so_far : FilledTo l.size l.size (λ i j. coefficient l.equations i (l.size + j)) l.i l.j l.matrix;
  kept : IsGrid l.matrix;
}
