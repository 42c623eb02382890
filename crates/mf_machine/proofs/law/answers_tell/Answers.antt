use Rattle.mf_machine.proofs.Told as told
use Rattle.mf_machine.proofs.law.answers_tell.Goals as goal

pub returns : goal.returns
returns c = told.answers_tell
