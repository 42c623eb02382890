use Rattle.mf_top.proofs.Once.{statuses_tell}
use Rattle.mf_top.proofs.laws.statuses_tell.Goals as goal

pub returns : goal.returns
returns c = statuses_tell
