use Rattle.mf_crew.proofs.Dealing.{Deals}
use Rattle.mf_crew.proofs.live.deal.Given as goal

abbrev pub invariant-loop-behind : goal.invariant-loop-behind
invariant-loop-behind g l = Deals l.shareds l.behind l.seats.items l.jobs.items
