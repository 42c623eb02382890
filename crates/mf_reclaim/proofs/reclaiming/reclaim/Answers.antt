use Rattle.std.proofs.Common.{◌≡◌, length, ap, sym, ◌∙◌, subst, arith}
use Rattle.mf_vault.specs.Facts.{stages}
use Rattle.mf_vault.proofs.Entering.{pinned_at}
use Rattle.mf_reclaim.specs.Collecting.{HasSeen, Collects}
use Rattle.mf_reclaim.proofs.Closings.{leaves_then}
use Rattle.mf_reclaim.proofs.Learning.{learnt_at, learnt_removed, absent, absent_leaves, no_memory, memory_leaves}
use Rattle.mf_reclaim.proofs.Learning.{reclaimed}
use Rattle.mf_reclaim.proofs.reclaiming.reclaim.Goals as goal

pub returns-in_default-clause-licence : goal.returns-in_default-clause-licence
returns-in_default-clause-licence g c = no_memory c.prepared.ensures.stays

pub returns-in_default-clause-leaves : goal.returns-in_default-clause-leaves
returns-in_default-clause-leaves g c = memory_leaves c.requires.idle c.prepared.ensures.stays

pub unpin-requires : goal.unpin-requires
unpin-requires g c = let (gs, x) = c.in-At.ensures.goes in let w = (pinned_at x).0 in omega arith

pub collect-requires-clause-idle : goal.collect-requires-clause-idle
collect-requires-clause-idle g c =
    (learnt_at c.requires.idle c.prepared.ensures.stays c.in-At.ensures.goes c.unpin.ensures.goes).leaves.idle

pub collect-requires-clause-seen : goal.collect-requires-clause-seen
collect-requires-clause-seen g c =
    (learnt_at c.requires.idle c.prepared.ensures.stays c.in-At.ensures.goes c.unpin.ensures.goes).seen

pub collect-requires-in-Removed-clause-idle : goal.collect-requires-in-Removed-clause-idle
collect-requires-in-Removed-clause-idle g c =
    (learnt_removed c.requires.idle c.prepared.ensures.stays c.in-Removed.ensures.goes).leaves.idle

pub collect-requires-in-Removed-clause-seen : goal.collect-requires-in-Removed-clause-seen
collect-requires-in-Removed-clause-seen g c =
    subst (λ n. HasSeen n (g.A.Access.actor c.pin.new.self)) (sym (c.stages-stages.ensures.value
    ∙ ap (λ b. length b.shape.stages) c.book.ensures))
    (learnt_removed c.requires.idle c.prepared.ensures.stays c.in-Removed.ensures.goes).seen

pub returns-in-At-clause-licence : goal.returns-in-At-clause-licence
returns-in-At-clause-licence g c =
    reclaimed (learnt_at c.requires.idle c.prepared.ensures.stays c.in-At.ensures.goes c.unpin.ensures.goes)
    c.collect.ensures.collects

pub returns-in-At-clause-leaves : goal.returns-in-At-clause-leaves
returns-in-At-clause-leaves g c =
    leaves_then (learnt_at c.requires.idle c.prepared.ensures.stays c.in-At.ensures.goes c.unpin.ensures.goes).leaves
    c.collect.ensures.leaves

pub returns-in-Removed-clause-licence : goal.returns-in-Removed-clause-licence
returns-in-Removed-clause-licence g c =
    reclaimed (learnt_removed c.requires.idle c.prepared.ensures.stays c.in-Removed.ensures.goes)
    (subst (λ n. Collects n c.collect-in-Removed.result (g.A.Access.actor c.pin.new.self)
    (g.A.Access.actor c.collect-in-Removed.new.access))
    (c.stages-stages.ensures.value ∙ ap (λ b. length b.shape.stages) c.book.ensures)
    c.collect-in-Removed.ensures.collects)

pub returns-in-Removed-clause-leaves : goal.returns-in-Removed-clause-leaves
returns-in-Removed-clause-leaves g c =
    leaves_then (learnt_removed c.requires.idle c.prepared.ensures.stays c.in-Removed.ensures.goes).leaves
    c.collect-in-Removed.ensures.leaves

pub returns-in-Absent-clause-licence : goal.returns-in-Absent-clause-licence
returns-in-Absent-clause-licence g c = absent c.prepared.ensures.stays c.in-Absent.ensures.goes

pub returns-in-Absent-clause-leaves : goal.returns-in-Absent-clause-leaves
returns-in-Absent-clause-leaves g c = absent_leaves c.requires.idle c.prepared.ensures.stays c.in-Absent.ensures.goes
