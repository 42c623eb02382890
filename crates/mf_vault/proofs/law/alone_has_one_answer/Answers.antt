use Rattle.mf_vault.proofs.Once.{one_answer}
use Rattle.mf_vault.proofs.law.alone_has_one_answer.Goals as goal

pub returns : goal.returns
returns c = one_answer
