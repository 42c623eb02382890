use Rattle.tests_life.proofs.sharing.removed.Goals as goal

pub returns : goal.returns
returns g c = c.remove.ensures.leaves
