use Rattle.tests_life.proofs.Following.{follows}
use Rattle.tests_life.proofs.turns.reclaim_file.Goals as goal

pub returns : goal.returns
returns g c = follows c.reclaim.ensures.licence.does c.reclaim.ensures.leaves.idle
