-- The chunks so far have the size.
use Rattle.std.proofs.Common.{◌≡◌, All, length}
use Rattle.bench.proofs.codes.chunks.Given as goal

abbrev pub invariant-loop-i : goal.invariant-loop-i
invariant-loop-i l = (length l.chunks.items ≡ l.i) × All (λ chunk. length chunk ≡ l.fn.size) l.chunks.items
