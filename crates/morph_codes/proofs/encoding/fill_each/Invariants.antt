-- The rooms so far have their parities, and each has its size.
use Rattle.std.proofs.Common.{◌≡◌, ℕ, ◌<◌, [], length, get_or}
use Rattle.mf_code.specs.Rows.{weighted_lists}
use Rattle.morph_codes.specs.Handed.{bytes_of, rooms_of, RoomsFit}
use Rattle.morph_codes.proofs.encoding.fill_each.Given as goal

abbrev pub invariant-loop-q : goal.invariant-loop-q
invariant-loop-q l =
    (length l.rooms ≡ length l.fn.points) × RoomsFit l.fn.size l.rooms
    × ((i : ℕ) → i < l.q → get_or (rooms_of l.rooms) i []
    ≡ weighted_lists l.fn.size (get_or l.fn.points i 0) (bytes_of l.fn.pieces))
