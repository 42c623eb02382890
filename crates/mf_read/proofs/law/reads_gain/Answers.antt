use Rattle.mf_read.proofs.Gained as gained
use Rattle.mf_read.proofs.law.reads_gain.Goals as goal

pub returns : goal.returns
returns c = gained.reads_gain
