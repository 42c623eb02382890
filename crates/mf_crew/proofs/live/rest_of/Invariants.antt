use Rattle.mf_crew.proofs.Dealing.{Rests}
use Rattle.mf_crew.proofs.live.rest_of.Given as goal

abbrev pub invariant-loop-shared : goal.invariant-loop-shared
invariant-loop-shared l = (goal.iterator-loop-shared).can_next l.shared-iterator
    × (goal.iterator-loop-shared).is_finite l.shared-iterator
    × Rests l.fn.shareds.items l.shared-iterator.a.rest.items l.fn.seats.items l.shared-iterator.b.rest.items
    l.files.items
