use Rattle.mf_repair.proofs.OneRepair.{repairs_once}
use Rattle.mf_repair.proofs.laws.repair_has_one_result.Goals as goal

pub returns : goal.returns
returns c = repairs_once
