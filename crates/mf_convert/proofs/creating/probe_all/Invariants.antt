use Rattle.std.proofs.Common.{◌≡◌, ◌≤◌, ◌+◌, ◌*◌, length, take, vec_capacity}
use Rattle.mf_vault.specs.Licence.{Does}
use Rattle.mf_convert.specs.Building.{IsFirstBuilder, AreMarked}
use Rattle.mf_convert.specs.Create.{probes}
use Rattle.mf_convert.proofs.creating.probe_all.Given as goal

abbrev pub invariant-loop-name : goal.invariant-loop-name
invariant-loop-name g l = record {
  does : Does (probes (take l.name-index l.names) l.states.items)
      (g.A.Access.actor l.fn.access) (g.A.Access.actor l.access);
  builder : IsFirstBuilder (g.A.Access.actor l.fn.access).facts (g.A.Access.actor l.access);
  long : length l.states.items ≡ l.name-index;
  marked : AreMarked (g.A.Access.actor l.access) 0 l.names l.states.items;
  capacity : length l.names ≤ vec_capacity l.states;
  room : 2 * length l.names ≤ g.A.Access.spare l.access + l.name-index;
}
