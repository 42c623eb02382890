use Rattle.mf_machine.proofs.Ends as ends
use Rattle.mf_machine.proofs.law.last_brings_back.Goals as goal

pub returns : goal.returns
returns c = ends.last_brings_back
