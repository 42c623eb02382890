use Rattle.std.proofs.Common.{◌≡◌}
use Rattle.tests_gate.proofs.making.lines_of.Given as goal

abbrev pub invariant-loop-server : goal.invariant-loop-server
invariant-loop-server l = l.lines.items ≡ l.losses
