use Rattle.tests_life.specs.Turns.{Follows}
use Rattle.tests_life.proofs.turns.lose_all.Given as goal

abbrev pub invariant-loop-name : goal.invariant-loop-name
invariant-loop-name g l = Follows (g.A.Access.actor l.fn.access) (g.A.Access.actor l.access)
