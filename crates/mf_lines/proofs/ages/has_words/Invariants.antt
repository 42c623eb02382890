use Rattle.std.proofs.Common.{◌≡◌, ◌+◌, length}
use Rattle.mf_lines.specs.Words.{behind}
use Rattle.mf_lines.proofs.ages.has_words.Given as goal

abbrev pub invariant-loop : goal.invariant-loop
invariant-loop l = length (behind l.fn.rest) ≡ l.counter + length (behind l.left)
