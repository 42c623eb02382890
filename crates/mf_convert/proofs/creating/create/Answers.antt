use Rattle.std.proofs.Common.{subst, ap, ◌∙◌, arith}
use Rattle.mf_vault.specs.Actor.{Actor}
use Rattle.mf_vault.proofs.Doing.{one, then, after}
use Rattle.mf_vault.proofs.Entering.{entered}
use Rattle.mf_convert.specs.Building.{Builds}
use Rattle.mf_convert.specs.Create as create
use Rattle.mf_convert.proofs.Created.{created, first_builder, no_memory}
use Rattle.mf_convert.proofs.Leaving.{creates_leaves}
use Rattle.mf_convert.proofs.creating.create.Goals as goal

pub returns-then-not-begin-clause-licence : goal.returns-then-not-begin-clause-licence
returns-then-not-begin-clause-licence g c = record {
  calls = _;
  licence = create.busy;
  does = one c.if-not-begin.ensures.goes;
}

pub returns-then-not-begin-clause-leaves : goal.returns-then-not-begin-clause-leaves
returns-then-not-begin-clause-leaves g c = creates_leaves (returns-then-not-begin-clause-licence g c) c.requires.idle

pub unpin-requires : goal.unpin-requires
unpin-requires g c = let e = entered c.if-not-begin.ensures.goes c.in-At.ensures.goes in let w = e.work in omega arith

pub end-requires : goal.end-requires
end-requires g c = ap (λ (z : Actor). z.view.build.right) c.unpin.ensures.goes.becomes
    ∙ (entered c.if-not-begin.ensures.goes c.in-At.ensures.goes).building.right

pub end-requires-in-Removed : goal.end-requires-in-Removed
end-requires-in-Removed g c = (entered c.if-not-begin.ensures.goes c.in-Removed.ensures.goes).building.right

pub returns-in-At-clause-licence : goal.returns-in-At-clause-licence
returns-in-At-clause-licence g c = let e = entered c.if-not-begin.ensures.goes c.in-At.ensures.goes in record {
  calls = _;
  licence = create.was_there e.missed _;
  does = then e.does (after c.unpin.ensures.goes (one c.end.ensures.goes));
}

pub returns-in-At-clause-leaves : goal.returns-in-At-clause-leaves
returns-in-At-clause-leaves g c = creates_leaves (returns-in-At-clause-licence g c) c.requires.idle

pub returns-in-Removed-clause-licence : goal.returns-in-Removed-clause-licence
returns-in-Removed-clause-licence g c = let e = entered c.if-not-begin.ensures.goes c.in-Removed.ensures.goes in record {
  calls = _;
  licence = create.was_removed e.missed;
  does = then e.does (one c.end-in-Removed.ensures.goes);
}

pub returns-in-Removed-clause-leaves : goal.returns-in-Removed-clause-leaves
returns-in-Removed-clause-leaves g c = creates_leaves (returns-in-Removed-clause-licence g c) c.requires.idle

pub build-requires-clause-builder : goal.build-requires-clause-builder
build-requires-clause-builder g c = first_builder (entered c.if-not-begin.ensures.goes c.in-Absent.ensures.goes)
    c.prepared.ensures.stays c.requires.reached

pub end-requires-in-Err : goal.end-requires-in-Err
end-requires-in-Err g c = ap (λ (z : Actor). z.view.build.right) c.prepared.ensures.stays
    ∙ (entered c.if-not-begin.ensures.goes c.in-Absent.ensures.goes).building.right

pub returns-in-Ok-clause-licence : goal.returns-in-Ok-clause-licence
returns-in-Ok-clause-licence g c = created (entered c.if-not-begin.ensures.goes c.in-Absent.ensures.goes)
    (subst (λ (z : Actor). Builds z (g.A.Access.actor c.build.new.access)) c.prepared.ensures.stays c.build.ensures)

pub returns-in-Ok-clause-leaves : goal.returns-in-Ok-clause-leaves
returns-in-Ok-clause-leaves g c = creates_leaves (returns-in-Ok-clause-licence g c) c.requires.idle

pub returns-in-Err-clause-licence : goal.returns-in-Err-clause-licence
returns-in-Err-clause-licence g c = no_memory (entered c.if-not-begin.ensures.goes c.in-Absent.ensures.goes)
    c.prepared.ensures.stays c.end-in-Err.ensures.goes

pub returns-in-Err-clause-leaves : goal.returns-in-Err-clause-leaves
returns-in-Err-clause-leaves g c = creates_leaves (returns-in-Err-clause-licence g c) c.requires.idle
