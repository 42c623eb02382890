use Rattle.tests_life.proofs.Following.{able_on, follows_on}
use Rattle.tests_life.proofs.turns.by_one.Goals as goal

pub take-requires : goal.take-requires
take-requires g c =
    able_on c.args.family.now c.args.bytes.now (record { idle = c.requires.idle; tried = c.requires.tried })
    c.loop-i.invariant

pub returns-in_err-came : goal.returns-in_err-came
returns-in_err-came g c = follows_on c.loop-i.invariant c.take.ensures

pub returns-then-ne : goal.returns-then-ne
returns-then-ne g c = follows_on c.loop-i.invariant c.take.ensures
