-- The pieces so far have the size.
use Rattle.std.proofs.Common.{◌≡◌, All, IfSome, length}
use Rattle.bench.proofs.codes.pieces_without.Given as goal

abbrev pub invariant-loop-t : goal.invariant-loop-t
invariant-loop-t l = (length l.pieces.items ≡ l.t)
    × All (λ piece. IfSome piece (λ bytes. length bytes ≡ l.fn.size)) l.pieces.items
