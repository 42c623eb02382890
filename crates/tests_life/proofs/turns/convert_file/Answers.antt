use Rattle.tests_life.proofs.Following.{follows}
use Rattle.tests_life.proofs.turns.convert_file.Goals as goal

pub returns : goal.returns
returns g c = follows c.convert.ensures.licence.does c.convert.ensures.leaves.idle
