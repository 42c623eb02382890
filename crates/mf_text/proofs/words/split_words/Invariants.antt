use Rattle.std.proofs.Common.{◌-◌, length}
use Rattle.mf_text.proofs.WordLemmas.{Words}
use Rattle.mf_text.proofs.words.split_words.Given as goal

abbrev pub invariant-loop-len : goal.invariant-loop-len
invariant-loop-len l = Words l.line l.spans.items l.start

abbrev pub decreases-loop-len : goal.decreases-loop-len
decreases-loop-len l = length l.line - l.start
