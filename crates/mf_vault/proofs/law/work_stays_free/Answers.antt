use Rattle.mf_vault.proofs.Gaining as gaining
use Rattle.mf_vault.proofs.law.work_stays_free.Goals as goal

pub returns : goal.returns
returns c = gaining.work_stays_free
