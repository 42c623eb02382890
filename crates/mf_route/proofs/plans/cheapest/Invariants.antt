use Rattle.mf_route.specs.Tables.{IsPick, IsPlanBelow, pick_of}
use Rattle.mf_route.proofs.plans.cheapest.Given as goal

-- the cheapest of the plans that begin with the first candidates
abbrev pub invariant-loop-i : goal.invariant-loop-i
invariant-loop-i l = IsPick l.terms (IsPlanBelow l.terms l.i) (pick_of l.best)
