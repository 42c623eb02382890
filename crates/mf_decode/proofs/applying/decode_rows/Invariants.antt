use Rattle.std.proofs.Common.{◌≡◌, map}
use Rattle.std.specs.List.{range_with_len}
use Rattle.mf_kernel.specs.Dots.{rows}
use Rattle.mf_decode.specs.Columns.{decode_row}
use Rattle.mf_decode.proofs.applying.decode_rows.Given as goal

abbrev pub invariant-loop-e : goal.invariant-loop-e
invariant-loop-e l = rows l.lists.items ≡ map (decode_row l.fn.inverse l.fn.points l.fn.pieces) (range_with_len 0 l.e)
