use Rattle.std.proofs.Common.{◌≡◌, ◌++◌, take, drop}
use Rattle.std.specs.List.{flat_map}
use Rattle.mf_lines.specs.Meaning.{phases_in}
use Rattle.mf_script.specs.Losses.{phase_losses}
use Rattle.mf_script.proofs.losses.add_phases.Given as goal

abbrev pub invariant-loop-item : goal.invariant-loop-item
invariant-loop-item l =
    l.losses ++ flat_map phase_losses (take l.left (phases_in (drop l.item-index l.items)))
    ≡ l.fn.losses ++ flat_map phase_losses (take l.fn.many (phases_in l.items))
