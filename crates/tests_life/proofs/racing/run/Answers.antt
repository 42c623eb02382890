use Rattle.tests_life.proofs.Visited.{stays_on}
use Rattle.tests_life.proofs.racing.run.Goals as goal

pub loop-preserved : goal.loop-preserved
loop-preserved g c = stays_on c.loop.invariant c.in_ok-seat.ensures
