use Rattle.mf_read.proofs.OneRead.{one_result}
use Rattle.mf_read.proofs.law.read_has_one_result.Goals as goal

pub returns : goal.returns
returns c = one_result
