use Rattle.std.proofs.Common.{◌≡◌, ◌≤◌, ◌+◌}
use Rattle.mf_places.specs.Names.{count_of}
use Rattle.mf_vault.specs.Conditions.{Leaves}
use Rattle.mf_reclaim.specs.Collecting.{AreShown}
use Rattle.mf_reclaim.proofs.Discards.{Discarding}
use Rattle.mf_reclaim.proofs.reclaiming.discard_all.Given as goal

abbrev pub invariant-loop-n : goal.invariant-loop-n
invariant-loop-n g l = record {
  discarding : Discarding l.answers l.n l.dropped (g.A.Access.actor l.fn.access) (g.A.Access.actor l.access);
  shown : AreShown l.answers (g.A.Access.actor l.access);
  leaves : Leaves (g.A.Access.actor l.fn.access) (g.A.Access.actor l.access);
  room : count_of (g.A.Access.actor l.fn.access).facts.book ≤ g.A.Access.spare l.access + l.n;
}
