use Rattle.mf_vault.proofs.Doing.{facts_stay}
use Rattle.bench.proofs.files.fill.Goals as goal

pub returns : goal.returns
returns g c = facts_stay c.create.ensures.licence.does
