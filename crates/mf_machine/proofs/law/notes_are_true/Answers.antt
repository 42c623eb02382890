use Rattle.mf_machine.proofs.Goes as goes
use Rattle.mf_machine.proofs.law.notes_are_true.Goals as goal

pub returns : goal.returns
returns c = goes.notes_true
