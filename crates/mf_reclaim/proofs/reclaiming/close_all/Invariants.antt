use Rattle.std.proofs.Common.{◌≡◌, ◌≤◌, ◌+◌, length, vec_capacity}
use Rattle.mf_places.specs.Names.{count_of}
use Rattle.mf_vault.specs.Conditions.{Leaves}
use Rattle.mf_vault.specs.Facts.{stages}
use Rattle.mf_vault.specs.Licence.{Does}
use Rattle.mf_reclaim.specs.Reclaim.{closes}
use Rattle.mf_reclaim.specs.Collecting.{AreShown, HasSeen}
use Rattle.mf_reclaim.proofs.reclaiming.close_all.Given as goal

abbrev pub invariant-loop-g : goal.invariant-loop-g
invariant-loop-g g l = record {
  does : Does (closes 0 l.answers.items) (g.A.Access.actor l.fn.access) (g.A.Access.actor l.access);
  long : length l.answers.items ≡ l.g;
  shown : AreShown l.answers.items (g.A.Access.actor l.access);
  seen : HasSeen l.end (g.A.Access.actor l.access);
  leaves : Leaves (g.A.Access.actor l.fn.access) (g.A.Access.actor l.access);
  capacity : stages (g.A.Access.actor l.fn.access).facts ≤ vec_capacity l.answers;
  room : count_of (g.A.Access.actor l.fn.access).facts.book + stages (g.A.Access.actor l.fn.access).facts
      ≤ g.A.Access.spare l.access + l.g;
}
