use Rattle.std.proofs.Common.{map}
use Rattle.mf_shared.specs.Whole.{told_by}
use Rattle.mf_crew.specs.Parts.{AreSeatsOf}
use Rattle.mf_crew.proofs.jobs.seats_of.Given as goal

abbrev pub invariant-loop-access : goal.invariant-loop-access
invariant-loop-access g l = AreSeatsOf (map told_by l.yielded) l.seats.items
