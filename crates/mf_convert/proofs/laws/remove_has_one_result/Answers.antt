use Rattle.mf_convert.proofs.Once.{removes_once}
use Rattle.mf_convert.proofs.laws.remove_has_one_result.Goals as goal

pub returns : goal.returns
returns c = removes_once
