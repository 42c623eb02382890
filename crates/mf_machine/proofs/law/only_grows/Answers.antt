use Rattle.mf_machine.proofs.Goes as goes
use Rattle.mf_machine.proofs.law.only_grows.Goals as goal

pub returns : goal.returns
returns c = goes.only_grows
