use Rattle.std.proofs.Common.{◌≡◌, ap, sym, ◌∙◌, subst, arith}
use Rattle.mf_vault.specs.Actor.{Actor}
use Rattle.mf_vault.specs.Facts.{Facts}
use Rattle.mf_vault.specs.Conditions.{IsOfFamily}
use Rattle.mf_vault.proofs.Doing.{one, then, after}
use Rattle.mf_vault.proofs.Entering.{entered}
use Rattle.mf_repair.specs.Repair as licence
use Rattle.mf_repair.proofs.Mended.{mender, through, through_leaves, enters_leaves, busy_leaves}
use Rattle.mf_repair.proofs.repairing.repair.Goals as goal

pub returns-then-not-begin-clause-licence : goal.returns-then-not-begin-clause-licence
returns-then-not-begin-clause-licence g c = record {
  calls = _;
  licence = licence.busy;
  does = one
      c.if-not-begin.ensures.goes;
}

pub returns-then-not-begin-clause-leaves : goal.returns-then-not-begin-clause-leaves
returns-then-not-begin-clause-leaves g c = busy_leaves c.requires.idle c.if-not-begin.ensures.goes

pub repair_generation-outcome-requires-clause-mender : goal.repair_generation-outcome-requires-clause-mender
repair_generation-outcome-requires-clause-mender g c = mender
    (entered c.if-not-begin.ensures.goes c.in-At.ensures.goes)

pub unpin-requires : goal.unpin-requires
unpin-requires g c =
    let m = mender (entered c.if-not-begin.ensures.goes c.in-At.ensures.goes) in
    let w = c.repair_generation-outcome.ensures.stays.work ∙ m.work in omega arith

pub end-requires : goal.end-requires
end-requires g c = ap (λ (z : Actor). z.view.build.right) c.unpin.ensures.goes.becomes
    ∙ (c.repair_generation-outcome.ensures.stays.right
    ∙ (entered c.if-not-begin.ensures.goes c.in-At.ensures.goes).building.right)

pub end-requires-in-Absent : goal.end-requires-in-Absent
end-requires-in-Absent g c = (entered c.if-not-begin.ensures.goes c.in-Absent.ensures.goes).building.right

pub end-requires-in-Removed : goal.end-requires-in-Removed
end-requires-in-Removed g c = (entered c.if-not-begin.ensures.goes c.in-Removed.ensures.goes).building.right

pub returns-in-At-clause-licence : goal.returns-in-At-clause-licence
returns-in-At-clause-licence g c = through (entered c.if-not-begin.ensures.goes c.in-At.ensures.goes)
    c.repair_generation-outcome.ensures.repairs c.unpin.ensures.goes c.end.ensures.goes

pub returns-in-At-clause-leaves : goal.returns-in-At-clause-leaves
returns-in-At-clause-leaves g c = through_leaves (entered c.if-not-begin.ensures.goes c.in-At.ensures.goes)
    c.repair_generation-outcome.ensures.stays c.unpin.ensures.goes c.end.ensures.goes

pub returns-in-Absent-clause-licence : goal.returns-in-Absent-clause-licence
returns-in-Absent-clause-licence g c = let e = entered c.if-not-begin.ensures.goes c.in-Absent.ensures.goes in record {
  calls = _;
  licence = licence.absent e.missed;
  does = then e.does (one c.end-in-Absent.ensures.goes);
}

pub returns-in-Absent-clause-leaves : goal.returns-in-Absent-clause-leaves
returns-in-Absent-clause-leaves g c = let e = entered c.if-not-begin.ensures.goes c.in-Absent.ensures.goes in
    enters_leaves e (e.work ∙ c.requires.idle.work) c.end-in-Absent.ensures.goes

pub returns-in-Removed-clause-licence : goal.returns-in-Removed-clause-licence
returns-in-Removed-clause-licence g c = let e = entered c.if-not-begin.ensures.goes c.in-Removed.ensures.goes in
    record {
      calls = _;
      licence = licence.removed e.missed;
      does = then e.does (one c.end-in-Removed.ensures.goes);
    }

pub returns-in-Removed-clause-leaves : goal.returns-in-Removed-clause-leaves
returns-in-Removed-clause-leaves g c = let e = entered c.if-not-begin.ensures.goes c.in-Removed.ensures.goes in
    enters_leaves e (e.work ∙ c.requires.idle.work) c.end-in-Removed.ensures.goes
