use Rattle.mf_top.proofs.Serving.{reads_served}
use Rattle.mf_top.proofs.laws.reads_are_served.Goals as goal

pub returns : goal.returns
returns c = reads_served
