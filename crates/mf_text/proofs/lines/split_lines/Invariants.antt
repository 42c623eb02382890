use Rattle.std.proofs.Common.{◌-◌, length}
use Rattle.mf_text.proofs.LineLemmas.{Split}
use Rattle.mf_text.proofs.lines.split_lines.Given as goal

abbrev pub invariant-loop-start : goal.invariant-loop-start
invariant-loop-start l = Split l.text l.spans.items l.start

abbrev pub decreases-loop-start : goal.decreases-loop-start
decreases-loop-start l = length l.text - l.start
