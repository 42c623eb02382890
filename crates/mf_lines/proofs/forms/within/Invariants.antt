use Rattle.std.proofs.Common.{◌≡◌, drop}
use Rattle.mf_lines.specs.Lines.{within}
use Rattle.mf_lines.proofs.forms.within.Given as goal

abbrev pub invariant-loop-passed : goal.invariant-loop-passed
invariant-loop-passed l = within l.limits ≡ within (drop l.passed-index l.limits)
