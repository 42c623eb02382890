use Rattle.mf_top.proofs.Reporting.{digests}
use Rattle.mf_top.proofs.laws.digests_are_of_cells.Goals as goal

pub returns : goal.returns
returns c = digests
