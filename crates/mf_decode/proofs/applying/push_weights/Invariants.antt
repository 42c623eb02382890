use Rattle.std.proofs.Common.{◌≡◌, ◌++◌, take}
use Rattle.mf_decode.specs.Columns.{weights_from, row_entries}
use Rattle.mf_decode.proofs.applying.push_weights.Given as goal

abbrev pub invariant-loop-t : goal.invariant-loop-t
invariant-loop-t l = l.row.items ≡ l.fn.row.items
    ++ weights_from (row_entries l.fn.inverse l.fn.e) l.fn.points 0 (take l.t l.fn.pieces)
