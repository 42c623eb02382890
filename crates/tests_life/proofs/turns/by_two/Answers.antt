use Rattle.tests_life.proofs.Following.{able_on, follows_on}
use Rattle.tests_life.proofs.turns.by_two.Goals as goal

pub take_either-requires-clause-first : goal.take_either-requires-clause-first
take_either-requires-clause-first g c =
    able_on c.args.family.now c.args.bytes.now c.requires.first c.loop-i.invariant.first

pub take_either-requires-clause-second : goal.take_either-requires-clause-second
take_either-requires-clause-second g c =
    able_on c.args.family.now c.args.bytes.now c.requires.second c.loop-i.invariant.second

pub returns-in_err-came-clause-first : goal.returns-in_err-came-clause-first
returns-in_err-came-clause-first g c = follows_on c.loop-i.invariant.first c.take_either.ensures.first

pub returns-in_err-came-clause-second : goal.returns-in_err-came-clause-second
returns-in_err-came-clause-second g c = follows_on c.loop-i.invariant.second c.take_either.ensures.second

pub returns-then-ne-clause-first : goal.returns-then-ne-clause-first
returns-then-ne-clause-first g c = follows_on c.loop-i.invariant.first c.take_either.ensures.first

pub returns-then-ne-clause-second : goal.returns-then-ne-clause-second
returns-then-ne-clause-second g c = follows_on c.loop-i.invariant.second c.take_either.ensures.second
