use Rattle.mf_machine.proofs.Ends as ends
use Rattle.mf_machine.proofs.law.rest_is_kept.Goals as goal

pub returns : goal.returns
returns c = ends.rest_is_kept
