use Rattle.mf_machine.proofs.Ends as ends
use Rattle.mf_machine.proofs.law.causes_lead_back.Goals as goal

pub returns : goal.returns
returns c = ends.causes_lead_back
