-- The three rooms are made up to the start of the next span, and the others are as they were.
use Rattle.std.proofs.Common.{◌≡◌, ℕ, ◌+◌, ◌-◌, ◌<◌, ◌≤◌, [], length, get_or}
use Rattle.morph_codes.specs.Handed.{bytes_of, rooms_of, RoomsFit}
use Rattle.morph_codes.proofs.Spans.{IsFront}
use Rattle.morph_codes.proofs.applying.fill_three_by.Given as goal

abbrev pub invariant-loop-start : goal.invariant-loop-start
invariant-loop-start l =
    (l.start ≤ l.fn.size) × (length l.rooms ≡ length l.fn.rooms) × RoomsFit l.fn.size l.rooms
    × IsFront l.fn.first (bytes_of l.fn.pieces) l.start (get_or (rooms_of l.rooms) l.fn.q [])
    × IsFront l.fn.second (bytes_of l.fn.pieces) l.start (get_or (rooms_of l.rooms) (l.fn.q + 1) [])
    × IsFront l.fn.third (bytes_of l.fn.pieces) l.start (get_or (rooms_of l.rooms) (l.fn.q + 2) [])
    × ((i : ℕ) → i < l.fn.q → get_or (rooms_of l.rooms) i [] ≡ get_or (rooms_of l.fn.rooms) i [])
    × ((i : ℕ) → l.fn.q + 3 ≤ i → get_or (rooms_of l.rooms) i [] ≡ get_or (rooms_of l.fn.rooms) i [])

abbrev pub decreases-loop-start : goal.decreases-loop-start
decreases-loop-start l = l.fn.size - l.start
