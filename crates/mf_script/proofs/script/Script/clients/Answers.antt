use Rattle.std.proofs.Common.{◌-◌, [], subst, arith}
use Rattle.mf_script.specs.Sound.{IsSound}
use Rattle.mf_script.proofs.script.Script.clients.Goals as goal

pub returns-clause-many : goal.returns-clause-many
returns-clause-many c low =
    let sound = subst IsSound c.self.view_is c.self.invariant.sound in
    sound.clients (c.args.phase - 1) [] (omega (arith, c.requires, low))
