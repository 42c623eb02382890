use Rattle.mf_convert.proofs.Once.{creates_once}
use Rattle.mf_convert.proofs.laws.create_has_one_result.Goals as goal

pub returns : goal.returns
returns c = creates_once
