use Rattle.std.proofs.Common.{length, ap, ◌∙◌, arith}
use Rattle.mf_vault.specs.Facts.{stages}
use Rattle.mf_vault.specs.Actor.{Actor}
use Rattle.mf_vault.proofs.Doing.{one, then}
use Rattle.mf_vault.proofs.Entering.{entered}
use Rattle.mf_convert.specs.Remove as remove
use Rattle.mf_convert.proofs.Removes.{may_publish, removed_now}
use Rattle.mf_convert.proofs.Leaving.{removes_leaves}
use Rattle.mf_convert.proofs.removing.remove.Goals as goal

pub returns-then-not-begin-clause-licence : goal.returns-then-not-begin-clause-licence
returns-then-not-begin-clause-licence g c = record {
  calls = _;
  licence = remove.busy;
  does = one c.if-not-begin.ensures.goes;
}

pub returns-then-not-begin-clause-leaves : goal.returns-then-not-begin-clause-leaves
returns-then-not-begin-clause-leaves g c = removes_leaves (returns-then-not-begin-clause-licence g c) c.requires.idle

pub unpin-requires : goal.unpin-requires
unpin-requires g c = let e = entered c.if-not-begin.ensures.goes c.in-At.ensures.goes in let w = e.work in omega arith

pub publish-requires : goal.publish-requires
publish-requires g c = may_publish (entered c.if-not-begin.ensures.goes c.in-At.ensures.goes) c.unpin.ensures.goes
    (c.stages-stages.ensures.value ∙ (ap (λ l. length l.shape.stages) c.book.ensures
    ∙ ap (λ (z : Actor). stages z.facts) c.if-not-begin.ensures.goes.becomes))

pub end-requires : goal.end-requires
end-requires g c = ap (λ (z : Actor). z.view.build.right) c.publish.ensures.goes.becomes
    ∙ (ap (λ (z : Actor). z.view.build.right) c.unpin.ensures.goes.becomes
    ∙ (entered c.if-not-begin.ensures.goes c.in-At.ensures.goes).building.right)

pub end-requires-in-Absent : goal.end-requires-in-Absent
end-requires-in-Absent g c = (entered c.if-not-begin.ensures.goes c.in-Absent.ensures.goes).building.right

pub end-requires-in-Removed : goal.end-requires-in-Removed
end-requires-in-Removed g c = (entered c.if-not-begin.ensures.goes c.in-Removed.ensures.goes).building.right

pub returns-in-At-clause-licence : goal.returns-in-At-clause-licence
returns-in-At-clause-licence g c = removed_now (entered c.if-not-begin.ensures.goes c.in-At.ensures.goes)
    c.unpin.ensures.goes c.publish.ensures.goes c.end.ensures.goes
    (c.stages-stages.ensures.value ∙ (ap (λ l. length l.shape.stages) c.book.ensures
    ∙ ap (λ (z : Actor). stages z.facts) c.if-not-begin.ensures.goes.becomes))

pub returns-in-At-clause-leaves : goal.returns-in-At-clause-leaves
returns-in-At-clause-leaves g c = removes_leaves (returns-in-At-clause-licence g c) c.requires.idle

pub returns-in-Absent-clause-licence : goal.returns-in-Absent-clause-licence
returns-in-Absent-clause-licence g c = let e = entered c.if-not-begin.ensures.goes c.in-Absent.ensures.goes in record {
  calls = _;
  licence = remove.absent e.missed;
  does = then e.does (one c.end-in-Absent.ensures.goes);
}

pub returns-in-Absent-clause-leaves : goal.returns-in-Absent-clause-leaves
returns-in-Absent-clause-leaves g c = removes_leaves (returns-in-Absent-clause-licence g c) c.requires.idle

pub returns-in-Removed-clause-licence : goal.returns-in-Removed-clause-licence
returns-in-Removed-clause-licence g c = let e = entered c.if-not-begin.ensures.goes c.in-Removed.ensures.goes in record {
  calls = _;
  licence = remove.was_removed e.missed;
  does = then e.does (one c.end-in-Removed.ensures.goes);
}

pub returns-in-Removed-clause-leaves : goal.returns-in-Removed-clause-leaves
returns-in-Removed-clause-leaves g c = removes_leaves (returns-in-Removed-clause-licence g c) c.requires.idle
