use Rattle.std.proofs.Common.{◌≤◌, ◌+◌, length, take}
use Rattle.mf_client.specs.Acts.{LosesIn}
use Rattle.mf_client.proofs.losing.lose_names.Given as goal

abbrev pub invariant-loop-name : goal.invariant-loop-name
invariant-loop-name g l = record {
  lost : LosesIn l.line (take l.name-index l.names) l.count (g.A.Access.actor l.fn.access) (g.A.Access.actor l.access);
  room : length l.names ≤ g.A.Access.spare l.access + l.name-index;
  low : l.count ≤ l.name-index;
}
