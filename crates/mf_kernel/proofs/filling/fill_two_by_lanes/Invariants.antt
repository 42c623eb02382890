-- The columns so far are made.
use Rattle.std.proofs.Common.{◌≡◌, ℕ, ◌+◌, ◌*◌, ◌<◌, length, map, get_or}
use Rattle.mf_code.specs.Rows.{column}
use Rattle.mf_kernel.specs.Dots.{dot}
use Rattle.mf_kernel.proofs.filling.fill_two_by_lanes.Given as goal

abbrev pub invariant-loop-block : goal.invariant-loop-block
invariant-loop-block g l =
    ((k : ℕ) → k < l.block * 32 → k < length l.fn.a
    → get_or l.a k 0 ≡ dot l.fn.first (column (l.fn.start + k) (map g.P.Bytes.list l.fn.pieces)))
    × ((k : ℕ) → k < l.block * 32 → k < length l.fn.a
    → get_or l.b k 0 ≡ dot l.fn.second (column (l.fn.start + k) (map g.P.Bytes.list l.fn.pieces)))
