use Rattle.mf_vault.proofs.Gaining as gaining
use Rattle.mf_vault.proofs.law.pins_are_looked_at.Goals as goal

pub returns : goal.returns
returns c = gaining.pins_are_looked
