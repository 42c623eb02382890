use Rattle.mf_convert.proofs.Dataless.{reads_no_data}
use Rattle.mf_convert.proofs.laws.no_data_is_read.Goals as goal

pub returns : goal.returns
returns c = reads_no_data
