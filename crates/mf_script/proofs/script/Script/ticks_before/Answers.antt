use Rattle.std.proofs.Common.{◌<◌, ◌-◌, ◌^◌, sym, subst, arith}
use Rattle.mf_script.specs.Phases.{ticks_ahead}
use Rattle.mf_script.proofs.PhaseLemmas.{ahead_few}
use Rattle.mf_script.proofs.script.Script.ticks_before.Goals as goal

pub ticks_ahead-requires : goal.ticks_ahead-requires
ticks_ahead-requires c =
    let all = c.self.invariant.sound.ticks in
    let front = ahead_few c.self.inside.items.items (c.args.phase - 1) in
    subst (λ items. ticks_ahead items (c.args.phase - 1) < 2 ^ 64) (sym c.deref.ensures.value) (omega arith)
