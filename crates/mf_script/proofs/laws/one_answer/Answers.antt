use Rattle.mf_script.proofs.Exclusive.{one_answer}
use Rattle.mf_script.proofs.laws.one_answer.Goals as goal

pub returns : goal.returns
returns c = one_answer
