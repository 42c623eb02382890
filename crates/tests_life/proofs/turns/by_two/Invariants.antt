use Rattle.tests_life.specs.Turns.{Follows}
use Rattle.tests_life.proofs.turns.by_two.Given as goal

abbrev pub invariant-loop-i : goal.invariant-loop-i
invariant-loop-i g l = record {
  first : Follows (g.A.Access.actor l.fn.first) (g.A.Access.actor l.first);
  second : Follows (g.A.Access.actor l.fn.second) (g.A.Access.actor l.second);
}
