use Rattle.std.proofs.Common.{◌≡◌}
use Rattle.mf_kernel.specs.Dots.{rows}
use Rattle.mf_repair.proofs.cells.chunks_of.Given as goal

abbrev pub invariant-loop-bytes : goal.invariant-loop-bytes
invariant-loop-bytes l = l.chunks.items ≡ rows l.yielded
