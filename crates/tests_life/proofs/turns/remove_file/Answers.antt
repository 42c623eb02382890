use Rattle.tests_life.proofs.Following.{removed_follows}
use Rattle.tests_life.proofs.turns.remove_file.Goals as goal

pub returns : goal.returns
returns g c = removed_follows c.requires.idle c.remove.ensures.licence
