use Rattle.std.proofs.Common.{◌≤◌, ◌+◌, ◌*◌, length}
use Rattle.mf_convert.specs.Convert.{factor_at}
use Rattle.mf_convert.proofs.Making.{Making}
use Rattle.mf_convert.proofs.converting.make_all.Given as goal

abbrev pub invariant-loop-i : goal.invariant-loop-i
invariant-loop-i g l = record {
  making : Making l.course l.names l.states l.i (g.A.Access.actor l.fn.access) (g.A.Access.actor l.access);
  room : length l.names * (factor_at (g.A.Access.actor l.fn.access).facts.book l.course.from + 1)
      ≤ g.A.Access.spare l.access + l.i * (factor_at (g.A.Access.actor l.fn.access).facts.book l.course.from + 1);
}
