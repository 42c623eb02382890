use Rattle.std.proofs.Common.{length}
use Rattle.mf_text.proofs.HexLemmas.{Pairs}
use Rattle.mf_text.proofs.hexadecimal.hex_bytes.Given as goal

abbrev pub invariant-loop-rest : goal.invariant-loop-rest
invariant-loop-rest l = Pairs l.word l.bytes.items l.rest

abbrev pub decreases-loop-rest : goal.decreases-loop-rest
decreases-loop-rest l = length l.rest
