use Rattle.std.proofs.Common.{◌≤◌, length, map, vec_capacity}
use Rattle.mf_client.specs.Steps.{IsRunning}
use Rattle.mf_client.proofs.running.run_client.Given as goal

abbrev pub invariant-loop-i : goal.invariant-loop-i
invariant-loop-i g l = record {
  running : IsRunning l.script l.phase l.client l.i (map g.A.Access.actor l.fn.accesses) l.done.items
      (map g.A.Access.actor l.accesses);
  capacity : length l.commands ≤ vec_capacity l.done;
}
