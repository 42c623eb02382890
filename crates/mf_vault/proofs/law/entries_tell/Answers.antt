use Rattle.mf_vault.proofs.Gaining as gaining
use Rattle.mf_vault.proofs.law.entries_tell.Goals as goal

pub returns : goal.returns
returns c = gaining.entries_tell
