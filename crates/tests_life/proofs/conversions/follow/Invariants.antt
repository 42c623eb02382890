use Rattle.mf_vault.specs.Conditions.{IsIdle, IsOfFamily}
use Rattle.tests_life.proofs.conversions.follow.Given as goal

abbrev pub invariant-loop-row : goal.invariant-loop-row
invariant-loop-row g l = record {
  idle : IsIdle (g.A.Access.actor l.access);
  family : IsOfFamily l.family.shape l.family.points (g.A.Access.actor l.access).facts.book;
}
