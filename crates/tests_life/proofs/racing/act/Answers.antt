use Rattle.tests_life.proofs.Following.{able_on, follows_on}
use Rattle.tests_life.proofs.racing.act.Goals as goal

pub take-requires : goal.take-requires
take-requires g c =
    able_on c.args.family.now c.args.bytes.now (record { idle = c.requires.idle; tried = c.requires.tried })
    c.loop.invariant
