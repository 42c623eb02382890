use Rattle.std.proofs.Common.{◌≡◌, [], take}
use Rattle.mf_read.specs.Asking.{away_in}
use Rattle.mf_repair.specs.Mending.{told_by}
use Rattle.mf_repair.proofs.short.first_away.Given as goal

abbrev pub invariant-loop-entry : goal.invariant-loop-entry
invariant-loop-entry l = away_in (told_by (take l.entry-index l.entries)) ≡ []
