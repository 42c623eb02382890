use Rattle.std.proofs.Common.{◌≡◌, take}
use Rattle.mf_lines.proofs.forms.small_of.Given as goal

abbrev pub invariant-loop-n : goal.invariant-loop-n
invariant-loop-n l = l.small.items ≡ take l.n-index l.numbers
