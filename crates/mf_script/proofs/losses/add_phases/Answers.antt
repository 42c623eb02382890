use Rattle.std.proofs.Common.{◌++◌, ◌+◌, ◌-◌, ◌∙◌, take, drop, sym, ap}
use Rattle.std.specs.List.{flat_map}
use Rattle.mf_lines.specs.Meaning.{phases_in}
use Rattle.mf_script.specs.Losses.{phase_losses}
use Rattle.mf_script.proofs.PhaseLemmas.{behind_ticks, behind_phase, one_less, losses_more}
use Rattle.mf_script.proofs.losses.add_phases.Goals.{in-Tick, in-Phase+else-left-eq0+in_ok-add_phase-in-Phase}
use Rattle.mf_script.proofs.losses.add_phases.Goals as goal

pub loop-item-preserved : goal.loop-item-preserved
loop-item-preserved c =
    let items = c.args.items.now in
    let i = c.loop-item.item-index in
    elim c.match-item.branch [
      | in-Tick w ↦ (λ j. w.losses-is j ++ flat_map phase_losses (take (w.left-is j) (phases_in (drop (i + 1) items))))
          ∙ ap (λ ps. c.loop-item.losses ++ flat_map phase_losses (take c.loop-item.left ps))
          (sym (behind_ticks items i c.item-item.result _ c.loop-item-test.true c.item-item.is w.in-Tick.is))
          ∙ c.loop-item.invariant
      | in-Phase+else-left-eq0+in_ok-add_phase-in-Phase w ↦ (λ j. w.losses-is j
          ++ flat_map phase_losses (take (w.left-is j) (phases_in (drop (i + 1) items))))
          ∙ losses_more _ c.loop-item.losses w.add_phase.new.losses c.loop-item.left (c.loop-item.left - 1)
          w.in-Phase.clients (phases_in (drop i items)) (phases_in (drop (i + 1) items))
          (behind_phase items i c.item-item.result w.in-Phase.clients c.loop-item-test.true c.item-item.is
          w.in-Phase.is)
          (one_less c.loop-item.left w.if-left-eq0.false)
          (w.in_ok-add_phase-in-Phase.ensures ∙ ap (λ cs. c.loop-item.losses ++ phase_losses cs) w.as_slice.ensures)
          c.loop-item.invariant
    ]
