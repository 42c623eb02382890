use Rattle.mf_crew.proofs.Dealing.{Joins}
use Rattle.mf_crew.proofs.live.join_all.Given as goal

abbrev pub invariant-loop-seat : goal.invariant-loop-seat
invariant-loop-seat l = Joins l.shareds l.fn.seats.items l.fn.gone.items l.i l.seat-iterator.rest.items l.yielded
    l.seats.items
