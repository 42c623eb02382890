use Rattle.std.proofs.Common.{take}
use Rattle.std.specs.List.{All}
use Rattle.mf_route.specs.Plans.{IsCandidate}
use Rattle.tests_route.proofs.asking.are_within.Given as goal

-- the first are within the limits
abbrev pub invariant-loop-i : goal.invariant-loop-i
invariant-loop-i l = All (IsCandidate 4) (take l.i l.candidates)
