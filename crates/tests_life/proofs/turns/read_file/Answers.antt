use Rattle.tests_life.proofs.Following.{read_follows}
use Rattle.tests_life.proofs.turns.read_file.Goals as goal

pub returns : goal.returns
returns g c = read_follows c.read.result c.requires.idle c.read.ensures.reads
