-- The rooms so far have their sums, and each has its size.
use Rattle.std.proofs.Common.{◌≡◌, ℕ, ◌-◌, ◌<◌, ◌≤◌, [], length, get_or}
use Rattle.mf_kernel.specs.Dots.{combined}
use Rattle.morph_codes.specs.Decoded.{row_at}
use Rattle.morph_codes.specs.Handed.{bytes_of, rooms_of, RoomsFit}
use Rattle.morph_codes.proofs.applying.fill_by_rows.Given as goal

abbrev pub invariant-loop-done : goal.invariant-loop-done
invariant-loop-done l =
    (l.done ≤ length l.fn.rooms) × (length l.rooms ≡ length l.fn.rooms) × RoomsFit l.fn.size l.rooms
    × ((i : ℕ) → i < l.done → get_or (rooms_of l.rooms) i []
    ≡ combined l.fn.size (bytes_of l.fn.pieces) (row_at (length l.fn.pieces) l.fn.rows i))

abbrev pub decreases-loop-done : goal.decreases-loop-done
decreases-loop-done l = length l.fn.rooms - l.done
