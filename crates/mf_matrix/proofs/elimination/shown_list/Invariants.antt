use Rattle.std.proofs.Common.{◌≡◌}
use Rattle.mf_matrix.specs.Elimination.{coefficient, shown_at}
use Rattle.mf_code.specs.Rows.{list_of}
use Rattle.mf_matrix.proofs.elimination.shown_list.Given as goal

abbrev pub invariant-loop-i : goal.invariant-loop-i
invariant-loop-i l = l.list.items ≡ list_of l.i (shown_at (coefficient l.equations) l.column l.factor)
