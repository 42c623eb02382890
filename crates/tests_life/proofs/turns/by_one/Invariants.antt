use Rattle.tests_life.specs.Turns.{Follows}
use Rattle.tests_life.proofs.turns.by_one.Given as goal

abbrev pub invariant-loop-i : goal.invariant-loop-i
invariant-loop-i g l = Follows (g.A.Access.actor l.fn.access) (g.A.Access.actor l.access)
