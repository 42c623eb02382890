use Rattle.std.proofs.Common.{◌≡◌, length, take}
use Rattle.mf_lines.specs.Meaning.{phases_in}
use Rattle.mf_top.proofs.phases.count_phases.Given as goal

abbrev pub invariant-loop-item : goal.invariant-loop-item
invariant-loop-item l = l.count ≡ length (phases_in (take l.item-index l.script.items))
