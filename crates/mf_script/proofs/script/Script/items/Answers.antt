use Rattle.std.proofs.Common.{subst}
use Rattle.mf_script.specs.Sound.{IsSound}
use Rattle.mf_script.proofs.script.Script.items.Goals as goal

pub returns-clause-sound : goal.returns-clause-sound
returns-clause-sound c = subst IsSound c.self.view_is c.self.invariant.sound
