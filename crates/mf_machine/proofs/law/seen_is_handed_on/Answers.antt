use Rattle.mf_machine.proofs.Goes as goes
use Rattle.mf_machine.proofs.law.seen_is_handed_on.Goals as goal

pub returns : goal.returns
returns c = goes.handed_on
