use Rattle.std.proofs.Common.{◌≡◌, ◌≤◌, ◌+◌, ◌++◌, length}
use Rattle.mf_repair.proofs.Restored.{Restoring}
use Rattle.mf_repair.proofs.restoring.restore_all.Given as goal

abbrev pub invariant-loop-cell : goal.invariant-loop-cell
invariant-loop-cell g l = record {
  count : l.i ≡ length l.yielded;
  rest : l.fn.cells.items ≡ l.yielded ++ l.cell-iterator.rest.items;
  restoring : Restoring l.g l.j l.lost l.i (g.A.Access.actor l.fn.access) (g.A.Access.actor l.access);
  room : length l.lost ≤ g.A.Access.spare l.access + l.i;
}
