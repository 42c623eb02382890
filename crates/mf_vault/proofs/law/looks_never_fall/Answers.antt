use Rattle.mf_vault.proofs.Looking.{never_fall}
use Rattle.mf_vault.proofs.law.looks_never_fall.Goals as goal

pub returns : goal.returns
returns c = never_fall
