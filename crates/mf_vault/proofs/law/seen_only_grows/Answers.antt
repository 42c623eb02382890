use Rattle.mf_vault.proofs.Growing.{grows}
use Rattle.mf_vault.proofs.law.seen_only_grows.Goals as goal

pub returns : goal.returns
returns c = grows
