use Rattle.std.proofs.Common.{◌≡◌, take}
use Rattle.mf_read.specs.Asking.{lost_in}
use Rattle.mf_read.specs.Groups.{asks_in}
use Rattle.mf_read.proofs.short.lost_names.Given as goal

abbrev pub invariant-loop-entry : goal.invariant-loop-entry
invariant-loop-entry l = l.items.items ≡ lost_in (asks_in (take l.entry-index l.entries))
