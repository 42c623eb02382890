use Rattle.mf_machine.proofs.Ends as ends
use Rattle.mf_machine.proofs.law.rules_are_kept.Goals as goal

pub returns : goal.returns
returns c = ends.law
