use Rattle.mf_report.proofs.Cells.{here_is_digest}
use Rattle.mf_report.proofs.laws.a_chunk_that_is_here_is_told_by_its_cell.Goals as goal

pub returns : goal.returns
returns c = here_is_digest
