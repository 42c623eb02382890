use Rattle.tests_life.proofs.Following.{follows_on, cut_follows, created_follows}
use Rattle.tests_life.proofs.turns.create_file.Goals as goal

pub returns : goal.returns
returns g c = let x = cut_follows c.requires.idle c.cut_off.ensures.goes in
    follows_on x (created_follows x.idle c.create.ensures.licence)
