use Rattle.mf_script.proofs.SoundLemmas.{sound}
use Rattle.mf_script.proofs.laws.scripts_are_sound.Goals as goal

pub returns : goal.returns
returns c = sound
