use Rattle.std.proofs.Common.{◌≡◌, map}
use Rattle.std.specs.List.{range_with_len}
use Rattle.mf_code.specs.Chunks.{chunk}
use Rattle.mf_stripe.proofs.cutting.cut.Given as goal

abbrev pub invariant-loop-i : goal.invariant-loop-i
invariant-loop-i l = l.cut.items ≡ map (chunk l.size l.bytes) (range_with_len 0 l.i)
