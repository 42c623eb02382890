use Rattle.std.proofs.Common.{◌≡◌, true, arith, sym, ap, ◌∙◌, subst}
use Rattle.mf_places.specs.Facts.{BookFacts}
use Rattle.mf_places.specs.Generations.{holds}
use Rattle.mf_vault.specs.Facts.{Facts}
use Rattle.mf_vault.proofs.Doing.{facts_kept}
use Rattle.mf_convert.specs.Convert as convert
use Rattle.mf_convert.proofs.Courses.{handed_on, stopped, by_call, went}
use Rattle.mf_convert.proofs.Marks.{may_probe, unborn_on}
use Rattle.mf_convert.proofs.converting.probe_one.Goals as goal

pub returns-in_err-go_on-clause-cuts : goal.returns-in_err-go_on-clause-cuts
returns-in_err-go_on-clause-cuts g c = handed_on c.from_residual.result _ _ c.from_residual.ensures.1
    (stopped _ _ c.in_err-go_on.ensures.stopped)

pub probe-state-requires-clause-may : goal.probe-state-requires-clause-may
probe-state-requires-clause-may g c = may_probe c.args.name c.requires.converter
    (g.met.A.Access.kept c.args.access.now).file c.requires.held

pub returns-in-Unborn-clause-on : goal.returns-in-Unborn-clause-on
returns-in-Unborn-clause-on g c = unborn_on c.requires.converter (g.met.A.Access.kept c.args.access.now).file
    c.probe-state.ensures.goes c.in-Unborn.is

pub returns-then-holds-clause-cuts : goal.returns-then-holds-clause-cuts
returns-then-holds-clause-cuts g c = by_call (convert.lost_probed c.args.name _ _ c.in-Lost.line
    (subst (λ (b : BookFacts). holds b c.args.course.now.from c.args.name ≡ true)
    (c.book.ensures ∙ ap (λ (f : Facts). f.book) (facts_kept c.in-Lost.ensures.goes)) (sym c.holds.ensures
    ∙ c.if-holds.true))) c.in-Lost.ensures.goes
    (went _ (omega arith) c.in_ok-go_on.ensures.on c.in-Lost.ensures.goes).within

pub returns-else-holds-clause-time : goal.returns-else-holds-clause-time
returns-else-holds-clause-time g c = went _ (omega arith) c.in_ok-go_on.ensures.on c.probe-state.ensures.goes

pub returns-in-Away-clause-cuts : goal.returns-in-Away-clause-cuts
returns-in-Away-clause-cuts g c = by_call (convert.away_probed c.args.name _ _ c.in-Away.server) c.in-Away.ensures.goes
    (went _ (omega arith) c.in_ok-go_on.ensures.on c.in-Away.ensures.goes).within
