use Rattle.mf_script.proofs.SeedScript.{seed_is}
use Rattle.mf_script.proofs.laws.seeds_are_scripts.Goals as goal

pub returns : goal.returns
returns c = seed_is
