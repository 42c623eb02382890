use Rattle.std.proofs.Common.{◌≡◌, ◌+◌, drop}
use Rattle.mf_script.specs.Phases.{ticks_ahead}
use Rattle.mf_script.proofs.phases.ticks_ahead.Given as goal

abbrev pub invariant-loop-item : goal.invariant-loop-item
invariant-loop-item l = l.sum + ticks_ahead (drop l.item-index l.items) l.left ≡ ticks_ahead l.items l.fn.others
