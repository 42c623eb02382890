use Rattle.std.proofs.Common.{◌≡◌}
use Rattle.mf_code.specs.Rows.{list_of}
use Rattle.mf_matrix.specs.Matrix.{entry}
use Rattle.mf_decode.proofs.applying.entries_of.Given as goal

abbrev pub invariant-loop-j : goal.invariant-loop-j
invariant-loop-j l = l.row.items ≡ list_of l.j (entry l.fn.inverse l.fn.e)
