use Rattle.tests_life.specs.Turns.{Follows}
use Rattle.tests_life.proofs.racing.act.Given as goal

abbrev pub invariant-loop : goal.invariant-loop
invariant-loop g l = Follows (g.A.Access.actor l.fn.access) (g.A.Access.actor l.access)
