use Rattle.mf_machine.proofs.Goes as goes
use Rattle.mf_machine.proofs.law.answers_are_entered.Goals as goal

pub returns : goal.returns
returns c = goes.answers_entered
