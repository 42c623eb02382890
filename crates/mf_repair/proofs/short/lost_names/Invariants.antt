use Rattle.std.proofs.Common.{◌≡◌, take}
use Rattle.mf_read.specs.Asking.{lost_in}
use Rattle.mf_repair.specs.Repair.{once}
use Rattle.mf_repair.specs.Mending.{told_by}
use Rattle.mf_repair.proofs.short.lost_names.Given as goal

abbrev pub invariant-loop-entry : goal.invariant-loop-entry
invariant-loop-entry l = l.items.items ≡ once (lost_in (told_by (take l.entry-index l.entries)))
