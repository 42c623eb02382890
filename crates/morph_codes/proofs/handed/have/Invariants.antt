-- The pieces so far have the columns.
use Rattle.std.proofs.Common.{ℕ, ◌+◌, ◌<◌, ◌≤◌, length, get_or, []}
use Rattle.morph_codes.specs.Handed.{bytes_of}
use Rattle.morph_codes.proofs.handed.have.Given as goal

abbrev pub invariant-loop-piece : goal.invariant-loop-piece
invariant-loop-piece l =
    (i : ℕ) → i < l.piece-index → l.fn.start + l.fn.count ≤ length (get_or (bytes_of l.fn.pieces) i [])
