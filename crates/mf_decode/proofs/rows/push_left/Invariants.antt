-- Whatever stripe has lost the erased places: the next of them, and the weights of its pieces so far.
use Rattle.std.proofs.Common.{◌≡◌, ℕ, ◌≤◌, List, Option, ◌++◌, length, take}
use Rattle.mf_decode.specs.Decoding.{gaps_from}
use Rattle.mf_decode.specs.Columns.{row_entries, weights_from}
use Rattle.mf_decode.proofs.rows.push_left.Given as goal

abbrev pub invariant-loop-t : goal.invariant-loop-t
invariant-loop-t l =
    (l.next ≤ length l.fn.erased)
    × ((pieces : List (Option (List ℕ))) → length pieces ≡ l.fn.count → gaps_from 0 pieces ≡ l.fn.erased
    → (l.next ≡ length (gaps_from 0 (take l.t pieces)))
    × (l.row.items ≡ l.fn.row.items
    ++ weights_from (row_entries l.fn.inverse l.fn.e) l.fn.points 0 (take l.t pieces)))
