use Rattle.std.proofs.Common.{◌≡◌, ◌≤◌, ◌+◌, ◌-◌, map}
use Rattle.mf_vault.specs.Facts.{cell_of}
use Rattle.mf_convert.specs.Convert.{gets}
use Rattle.mf_convert.specs.Converting.{Completes, row_of}
use Rattle.mf_convert.proofs.merging.fetch_all.Given as goal

abbrev pub invariant-loop-i : goal.invariant-loop-i
invariant-loop-i g l = record {
  low : l.first ≤ l.i;
  cells : l.parities.items ≡ map (cell_of (g.A.Access.actor l.fn.access).facts)
      (row_of l.width l.p l.first (l.i - l.first));
  completes : Completes l.course
      (gets (g.A.Access.actor l.fn.access).facts (row_of l.width l.p l.first (l.i - l.first)))
      (g.A.Access.actor l.fn.access) (g.A.Access.actor l.access);
  room : g.A.Access.spare l.fn.access ≤ g.A.Access.spare l.access + (l.i - l.first);
}
