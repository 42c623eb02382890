use Rattle.mf_plain.proofs.Rests.{at_rest, is_left}
use Rattle.mf_plain.proofs.access.PlainAccess.finish.Goals as goal

pub invariant_of-plain : goal.invariant_of-plain
invariant_of-plain c =
    at_rest c.args.self.stands c.birth-born.result c.pick-told.result.value c.pick-told.ensures c.birth-born.ensures

pub returns-clause-rests : goal.returns-clause-rests
returns-clause-rests c =
    is_left c.args.self.stands c.birth-born.result c.pick-told.result.value c.pick-told.ensures c.birth-born.ensures
