use Rattle.mf_read.proofs.Shortage.{short_has_lost}
use Rattle.mf_read.proofs.law.short_has_lost.Goals as goal

pub returns : goal.returns
returns c = short_has_lost
