-- The rooms so far have the size.
use Rattle.std.proofs.Common.{◌≡◌, ℕ, ◌<◌, [], length, get_or}
use Rattle.morph_codes.specs.Handed.{rooms_of}
use Rattle.morph_codes.proofs.handed.fit.Given as goal

abbrev pub invariant-loop-room : goal.invariant-loop-room
invariant-loop-room l = (i : ℕ) → i < l.room-index → length (get_or (rooms_of l.fn.rooms) i []) ≡ l.fn.size
