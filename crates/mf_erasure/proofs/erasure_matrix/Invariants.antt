use Rattle.std.proofs.Common.{length}
use Rattle.mf_matrix.specs.Matrix.{IsGrid}
use Rattle.mf_matrix.proofs.Grids.{FilledTo}
use Rattle.mf_erasure.specs.Erasure.{entry}
use Rattle.mf_erasure.proofs.erasure_matrix.Given as goal

abbrev pub invariant-loop-i : goal.invariant-loop-i
invariant-loop-i l = record {
  so_far : FilledTo (length l.kept) (length l.lost) (entry l.points l.lost l.kept) l.i 0 l.matrix;
  kept : IsGrid l.matrix;
}

abbrev pub invariant-loop-j : goal.invariant-loop-j
invariant-loop-j l = record {
  so_far : FilledTo (length l.kept) (length l.lost) (entry l.points l.lost l.kept) l.i l.j l.matrix;
  kept : IsGrid l.matrix;
}
