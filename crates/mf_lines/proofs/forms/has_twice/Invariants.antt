use Rattle.std.proofs.Common.{◌≡◌, false, take}
use Rattle.mf_lines.specs.Lines.{has_twice}
use Rattle.mf_lines.proofs.forms.has_twice.Given as goal

abbrev pub invariant-loop-n : goal.invariant-loop-n
invariant-loop-n l = (l.seen.keys ≡ take l.n-index l.numbers) × (has_twice (take l.n-index l.numbers) ≡ false)
