use Rattle.mf_reclaim.proofs.Gained as gained
use Rattle.mf_reclaim.proofs.laws.reclaims_gain.Goals as goal

pub returns : goal.returns
returns c = gained.reclaims_gain
