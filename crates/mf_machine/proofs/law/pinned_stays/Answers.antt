use Rattle.mf_machine.proofs.Ends as ends
use Rattle.mf_machine.proofs.law.pinned_stays.Goals as goal

pub returns : goal.returns
returns c = ends.pinned_stays
