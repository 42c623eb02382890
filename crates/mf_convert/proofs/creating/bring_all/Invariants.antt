use Rattle.std.proofs.Common.{◌≡◌, ◌≤◌, ◌+◌, ◌++◌, length}
use Rattle.mf_convert.proofs.Bringing.{Bringing}
use Rattle.mf_convert.proofs.creating.bring_all.Given as goal

abbrev pub invariant-loop-cell : goal.invariant-loop-cell
invariant-loop-cell g l = record {
  count : l.i ≡ length l.yielded;
  rest : l.fn.cells.items ≡ l.yielded ++ l.cell-iterator.rest.items;
  bringing : Bringing (g.A.Access.actor l.fn.access).facts l.names l.states l.i
      (g.A.Access.actor l.fn.access) (g.A.Access.actor l.access);
  room : length l.names ≤ g.A.Access.spare l.access + l.i;
}
