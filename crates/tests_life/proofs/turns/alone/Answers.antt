use Rattle.tests_life.proofs.Following.{first_able}
use Rattle.tests_life.proofs.turns.alone.Goals as goal

pub by_one-requires : goal.by_one-requires
by_one-requires c =
    first_able c.args.family.now c.args.bytes.now c.args.plain c.args.now c.args.losses.now _ c.new-access.ensures
    c.requires.family c.requires.bytes c.requires.line
