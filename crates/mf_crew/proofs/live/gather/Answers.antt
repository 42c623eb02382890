use Rattle.std.proofs.Common.{rules, ◌∷◌, ap, ◌∙◌}
use Rattle.mf_crew.proofs.Dealing.{gathers_all, gathers_next, gathers_more}
use Rattle.mf_crew.proofs.live.gather.Goals as goal

pub loop-report-init : goal.loop-report-init
loop-report-init c =
    gathers_all c.args.shareds.now c.args.seats.now.items c.args.reports.items
    c.into_iter-report-iterator.result.rest.items c.new-all.result.items c.requires.of c.requires.all (search rules)
    c.new-all.ensures.items

pub take_report-requires-clause-gone : goal.take_report-requires-clause-gone
take_report-requires-clause-gone c =
    gathers_next c.args.shareds.now c.args.seats.now.items c.args.reports.items
    c.loop-report.report-iterator.rest.items c.next.new.self.rest.items c.loop-report.seats.items
    c.loop-report.all.items c.in-Ok.report c.loop-report.invariant
    (c.in-Some.ensures.steps.0 ∙ ap (λ x. x ∷ c.next.new.self.rest.items) c.in-Ok.is)

pub loop-report-preserved : goal.loop-report-preserved
loop-report-preserved c =
    gathers_more c.args.shareds.now c.args.seats.now.items c.args.reports.items
    c.loop-report.report-iterator.rest.items c.next.new.self.rest.items c.loop-report.seats.items
    c.take_report.new.seats.items c.loop-report.all.items c.take_report.new.all.items c.in-Ok.report
    c.loop-report.invariant (c.in-Some.ensures.steps.0 ∙ ap (λ x. x ∷ c.next.new.self.rest.items) c.in-Ok.is)
    c.in_ok-take_report-in-Ok.ensures.of c.in_ok-take_report-in-Ok.ensures.views c.in_ok-take_report-in-Ok.ensures.done
