use Rattle.mf_machine.proofs.Ends as ends
use Rattle.mf_machine.proofs.law.rule_holds_everywhere.Goals as goal

pub returns : goal.returns
returns c = ends.rule_holds
