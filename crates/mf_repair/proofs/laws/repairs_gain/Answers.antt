use Rattle.mf_repair.proofs.Gained as gained
use Rattle.mf_repair.proofs.laws.repairs_gain.Goals as goal

pub returns : goal.returns
returns c = gained.repairs_gain
