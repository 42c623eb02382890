use Rattle.tests_life.proofs.Following.{pinned_follows}
use Rattle.tests_life.proofs.turns.hold.Goals as goal

pub returns : goal.returns
returns g c =
    pinned_follows (record { right = c.requires.idle.right; work = c.requires.idle.work }) c.pin.ensures.goes.1
