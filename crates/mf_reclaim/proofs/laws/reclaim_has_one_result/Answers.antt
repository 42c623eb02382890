use Rattle.mf_reclaim.proofs.Once.{reclaims_once}
use Rattle.mf_reclaim.proofs.laws.reclaim_has_one_result.Goals as goal

pub returns : goal.returns
returns c = reclaims_once
