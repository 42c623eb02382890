use Rattle.mf_convert.proofs.OnceConverted.{converts_once}
use Rattle.mf_convert.proofs.laws.convert_has_one_result.Goals as goal

pub returns : goal.returns
returns c = converts_once
