use Rattle.mf_crew.proofs.Dealing.{Gathers}
use Rattle.mf_crew.proofs.live.gather.Given as goal

abbrev pub invariant-loop-report : goal.invariant-loop-report
invariant-loop-report l = Gathers l.shareds l.fn.seats.items l.fn.reports.items l.report-iterator.rest.items
    l.seats.items
    l.all.items
