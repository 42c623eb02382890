use Rattle.tests_life.proofs.Following.{follows}
use Rattle.tests_life.proofs.turns.repair_file.Goals as goal

pub returns : goal.returns
returns g c = follows c.repair.ensures.licence.does c.repair.ensures.leaves.idle
