use Rattle.std.proofs.Common.{◌≡◌, map, take}
use Rattle.mf_client.specs.Acts.{lists_on}
use Rattle.mf_client.specs.Steps.{HaveRoom, rows}
use Rattle.mf_client.proofs.losing.prepared.Given as goal

abbrev pub invariant-loop-i : goal.invariant-loop-i
invariant-loop-i g l = record {
  same : map g.A.Access.actor l.accesses ≡ map g.A.Access.actor l.fn.accesses;
  lists : rows l.lists.items ≡ lists_on l.server (take l.i (map g.A.Access.actor l.fn.accesses));
  room : HaveRoom (rows l.lists.items) (take l.i (map g.A.Access.spare l.accesses));
}
