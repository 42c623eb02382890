use Rattle.std.proofs.Common.{◌≡◌, ◌≤◌, ◌+◌, length, take, vec_capacity}
use Rattle.mf_convert.specs.Create.{probes}
use Rattle.mf_convert.specs.Convert.{AllGoOn}
use Rattle.mf_convert.specs.Converting.{Completes, AreFound}
use Rattle.mf_convert.proofs.converting.probe_all.Given as goal

abbrev pub invariant-loop-name : goal.invariant-loop-name
invariant-loop-name g l = record {
  completes : Completes l.course (probes (take l.name-index l.names) l.states.items)
      (g.A.Access.actor l.fn.access) (g.A.Access.actor l.access);
  on : AllGoOn (g.A.Access.actor l.fn.access).facts.book l.course.from (take l.name-index l.names) l.states.items;
  found : AreFound l.course.from (g.A.Access.actor l.access) 0 l.names l.states.items;
  long : length l.states.items ≡ l.name-index;
  capacity : length l.names ≤ vec_capacity l.states;
  room : g.A.Access.spare l.fn.access ≤ g.A.Access.spare l.access + l.name-index;
}
