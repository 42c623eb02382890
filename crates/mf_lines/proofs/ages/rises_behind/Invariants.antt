use Rattle.std.proofs.Common.{◌≡◌, drop}
use Rattle.mf_lines.specs.Lines.{rises_behind}
use Rattle.mf_lines.proofs.ages.rises_behind.Given as goal

abbrev pub invariant-loop-n : goal.invariant-loop-n
invariant-loop-n l = rises_behind l.fn.first l.numbers ≡ rises_behind l.last (drop l.n-index l.numbers)
