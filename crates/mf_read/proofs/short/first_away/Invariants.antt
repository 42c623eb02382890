use Rattle.std.proofs.Common.{◌≡◌, [], take}
use Rattle.mf_read.specs.Asking.{away_in}
use Rattle.mf_read.specs.Groups.{asks_in}
use Rattle.mf_read.proofs.short.first_away.Given as goal

abbrev pub invariant-loop-entry : goal.invariant-loop-entry
invariant-loop-entry l = away_in (asks_in (take l.entry-index l.entries)) ≡ []
