use Rattle.std.proofs.Common.{ap, ◌∙◌, arith}
use Rattle.mf_vault.specs.Actor.{Actor}
use Rattle.mf_vault.proofs.Doing.{one, then}
use Rattle.mf_vault.proofs.Entering.{entered}
use Rattle.mf_convert.specs.Convert as convert
use Rattle.mf_convert.proofs.Converted.{converts, left_pinned, left_at_once, pinned_rests, nothing_counted}
use Rattle.mf_convert.proofs.converting.convert.Goals as goal

pub returns-then-not-begin-clause-licence : goal.returns-then-not-begin-clause-licence
returns-then-not-begin-clause-licence g c = record {
  calls = _;
  licence = convert.busy;
  counted = nothing_counted c.args.stop;
  does = one c.if-not-begin.ensures.goes;
}

pub convert_pinned-change-requires-clause-building : goal.convert_pinned-change-requires-clause-building
convert_pinned-change-requires-clause-building g c = (entered c.if-not-begin.ensures.goes c.in-At.ensures.goes).building

pub convert_pinned-change-requires-clause-work : goal.convert_pinned-change-requires-clause-work
convert_pinned-change-requires-clause-work g c = (entered c.if-not-begin.ensures.goes c.in-At.ensures.goes).work

pub unpin-requires : goal.unpin-requires
unpin-requires g c =
    let w = (entered c.if-not-begin.ensures.goes c.in-At.ensures.goes).work in
    let r = (pinned_rests c.convert_pinned-change.ensures).work in omega arith

pub end-requires : goal.end-requires
end-requires g c = ap (λ (z : Actor). z.view.build.right) c.unpin.ensures.goes.becomes
    ∙ ((pinned_rests c.convert_pinned-change.ensures).right
    ∙ (entered c.if-not-begin.ensures.goes c.in-At.ensures.goes).building.right)

pub end-requires-in-Absent : goal.end-requires-in-Absent
end-requires-in-Absent g c = (entered c.if-not-begin.ensures.goes c.in-Absent.ensures.goes).building.right

pub end-requires-in-Removed : goal.end-requires-in-Removed
end-requires-in-Removed g c = (entered c.if-not-begin.ensures.goes c.in-Removed.ensures.goes).building.right

pub returns-in-At-clause-licence : goal.returns-in-At-clause-licence
returns-in-At-clause-licence g c = converts (entered c.if-not-begin.ensures.goes c.in-At.ensures.goes)
    c.convert_pinned-change.ensures c.unpin.ensures.goes c.end.ensures.goes

pub returns-in-At-clause-leaves : goal.returns-in-At-clause-leaves
returns-in-At-clause-leaves g c = left_pinned (entered c.if-not-begin.ensures.goes c.in-At.ensures.goes)
    c.convert_pinned-change.ensures c.unpin.ensures.goes c.end.ensures.goes

pub returns-in-Absent-clause-licence : goal.returns-in-Absent-clause-licence
returns-in-Absent-clause-licence g c = let e = entered c.if-not-begin.ensures.goes c.in-Absent.ensures.goes in record {
  calls = _;
  licence = convert.absent e.missed;
  counted = nothing_counted c.args.stop;
  does = then e.does (one c.end-in-Absent.ensures.goes);
}

pub returns-in-Absent-clause-leaves : goal.returns-in-Absent-clause-leaves
returns-in-Absent-clause-leaves g c = left_at_once (entered c.if-not-begin.ensures.goes c.in-Absent.ensures.goes)
    c.requires.idle.work c.end-in-Absent.ensures.goes

pub returns-in-Removed-clause-licence : goal.returns-in-Removed-clause-licence
returns-in-Removed-clause-licence g c = let e = entered c.if-not-begin.ensures.goes c.in-Removed.ensures.goes in
    record {
      calls = _;
      licence = convert.was_removed e.missed;
      counted = nothing_counted c.args.stop;
      does = then e.does (one c.end-in-Removed.ensures.goes);
    }

pub returns-in-Removed-clause-leaves : goal.returns-in-Removed-clause-leaves
returns-in-Removed-clause-leaves g c = left_at_once (entered c.if-not-begin.ensures.goes c.in-Removed.ensures.goes)
    c.requires.idle.work c.end-in-Removed.ensures.goes
