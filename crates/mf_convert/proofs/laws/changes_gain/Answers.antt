use Rattle.mf_convert.proofs.Gained as gained
use Rattle.mf_convert.proofs.laws.changes_gain.Goals as goal

pub returns : goal.returns
returns c = gained.changes_gain
