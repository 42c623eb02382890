use Rattle.mf_top.proofs.Reporting.{no_data}
use Rattle.mf_top.proofs.laws.conversions_read_no_data.Goals as goal

pub returns : goal.returns
returns c = no_data
