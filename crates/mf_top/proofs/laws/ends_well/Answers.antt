use Rattle.mf_top.proofs.Once.{ends_well}
use Rattle.mf_top.proofs.laws.ends_well.Goals as goal

pub returns : goal.returns
returns c = ends_well
