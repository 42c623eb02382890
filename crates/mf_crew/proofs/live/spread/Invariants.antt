use Rattle.mf_crew.proofs.Dealing.{Spread}
use Rattle.mf_crew.proofs.live.spread.Given as goal

abbrev pub invariant-loop-plain : goal.invariant-loop-plain
invariant-loop-plain l = Spread l.now l.losses l.yielded l.shareds.items l.seats.items
