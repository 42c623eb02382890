use Rattle.mf_top.proofs.Once.{one_answer}
use Rattle.mf_top.proofs.laws.one_answer.Goals as goal

pub returns : goal.returns
returns c = one_answer
