use Rattle.std.proofs.Common.{length}
use Rattle.mf_script.proofs.ReadingLemmas.{Reading}
use Rattle.mf_script.proofs.reading.read_lines.Given as goal

abbrev pub invariant-loop-rest : goal.invariant-loop-rest
invariant-loop-rest l = Reading l.text l.rest l.draft

abbrev pub decreases-loop-rest : goal.decreases-loop-rest
decreases-loop-rest l = length l.rest
