use Rattle.mf_lines.proofs.FaultTableLemmas.{in_order}
use Rattle.mf_lines.proofs.laws.faults_in_order.Goals as goal

pub returns : goal.returns
returns c so line = in_order so line
