use Rattle.mf_machine.proofs.Accounting.{accounted_needs}
use Rattle.mf_machine.proofs.Idle as idle
use Rattle.mf_machine.proofs.law.no_rule_is_empty.Goals as goal

pub returns : goal.returns
returns c = record {
  rules = idle.each_needs;
  accounted = accounted_needs;
  caused = idle.caused_needs;
}
