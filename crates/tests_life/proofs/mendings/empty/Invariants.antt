use Rattle.std.proofs.Common.{◌≡◌}
use Rattle.tests_life.proofs.mendings.empty.Given as goal

abbrev pub invariant-loop-name : goal.invariant-loop-name
invariant-loop-name g l = (g.A.Access.actor l.access).facts ≡ (g.A.Access.actor l.fn.access).facts
