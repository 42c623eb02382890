use Rattle.mf_client.proofs.Once.{run_once}
use Rattle.mf_client.proofs.laws.run_has_one_result.Goals as goal

pub returns : goal.returns
returns c = run_once
