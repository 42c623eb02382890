use Rattle.tests_life.proofs.conversions.created.Goals as goal

pub returns : goal.returns
returns g c = c.create.ensures.leaves
