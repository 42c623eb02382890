use Rattle.mf_reclaim.proofs.Sparing as sparing
use Rattle.mf_reclaim.proofs.laws.held_stays.Goals as goal

pub returns : goal.returns
returns c = sparing.held_stays
