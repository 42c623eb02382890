use Rattle.std.proofs.Common.{◌≡◌, ◌≤◌, ◌*◌, [], length, map, take, vec_capacity}
use Rattle.mf_client.specs.Runs.{io_gained}
use Rattle.mf_client.specs.Steps.{VisitedAll}
use Rattle.mf_client.proofs.sweeping.visit_all.Given as goal

abbrev pub invariant-loop-file : goal.invariant-loop-file
invariant-loop-file g l = record {
  visited : VisitedAll (take l.file-index l.dues) (map g.A.Access.actor l.fn.accesses) (map g.A.Access.actor l.accesses)
      [] l.parts.items;
  io : l.io ≡ io_gained (map g.A.Access.actor l.fn.accesses) (map g.A.Access.actor l.accesses);
  room : length l.parts.items ≤ l.file-index * 4;
  capacity : vec_capacity l.fn.parts ≤ vec_capacity l.parts;
}
