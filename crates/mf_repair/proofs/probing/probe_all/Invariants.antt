use Rattle.std.proofs.Common.{◌≡◌, ◌≤◌, ◌+◌, length, vec_capacity}
use Rattle.mf_repair.proofs.Probed.{Probing}
use Rattle.mf_repair.proofs.probing.probe_all.Given as goal

abbrev pub invariant-loop-name : goal.invariant-loop-name
invariant-loop-name g l = record {
  probing : Probing l.g l.j l.name-index l.lost.items (g.A.Access.actor l.fn.access) (g.A.Access.actor l.access);
  capacity : length l.names ≤ vec_capacity l.lost;
  room : length l.names ≤ g.A.Access.spare l.access + l.name-index;
}
