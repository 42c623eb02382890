use Rattle.mf_machine.proofs.Totals as totals
use Rattle.mf_machine.proofs.law.account_adds_up.Goals as goal

pub returns : goal.returns
returns c = totals.adds_up
