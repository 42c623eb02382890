-- The seat is the first one's, with its share.
use Rattle.tests_life.specs.Turns.{Stays}
use Rattle.tests_life.proofs.racing.run.Given as goal

abbrev pub invariant-loop : goal.invariant-loop
invariant-loop g l = Stays l.fn.seat l.seat l.race.shared
