use Rattle.std.proofs.Common.{◌≡◌, length}
use Rattle.mf_lines.specs.Words.{behind}
use Rattle.mf_lines.specs.Lines.{numbers_in}
use Rattle.mf_lines.proofs.ListLemmas.{numbers_with}
use Rattle.mf_lines.proofs.forms.numbers_of.Given as goal

abbrev pub invariant-loop-left : goal.invariant-loop-left
invariant-loop-left l = numbers_in (behind l.fn.rest) ≡ numbers_with l.numbers.items (numbers_in (behind l.left))

abbrev pub decreases-loop-left : goal.decreases-loop-left
decreases-loop-left l = length (behind l.left)
