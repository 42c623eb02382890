-- The next get may happen, and has room.
use Rattle.std.proofs.Common.{◌≡◌, ◌+◌, ◌≤◌}
use Rattle.mf_vault.specs.May.{MayGet}
use Rattle.bench.proofs.gets.get_all.Given as goal

abbrev pub invariant-loop : goal.invariant-loop
invariant-loop g l = record {
  may : MayGet l.name (g.A.Access.actor l.access);
  facts : (g.A.Access.actor l.access).facts ≡ (g.A.Access.actor l.fn.access).facts;
  room : l.count ≤ g.A.Access.spare l.access + l.counter;
}
