use Rattle.std.proofs.Common.{map}
use Rattle.mf_shared.specs.Whole.{told_by}
use Rattle.mf_crew.proofs.Dealing.{Splits}
use Rattle.mf_crew.proofs.live.split_all.Given as goal

abbrev pub invariant-loop-i : goal.invariant-loop-i
invariant-loop-i g l = Splits l.behind l.i l.shareds l.seats.items (map told_by l.accesses.items)
