use Rattle.std.proofs.Common.{◌+◌, sym, subst}
use Rattle.mf_route.specs.Tables.{IsPick, IsPlanBelow, pick_of}
use Rattle.mf_route.proofs.Choosing.{goes_on}
use Rattle.mf_route.proofs.plans.cheapest.Goals as goal

pub loop-i-preserved : goal.loop-i-preserved
loop-i-preserved c =
    let s = c.args.terms.now in
    let i = c.loop-i.i in
    subst (λ way. IsPick s (IsPlanBelow s (i + 1)) (pick_of way)) (sym c.better-best.ensures)
    (goes_on s i c.loop-i.best c.in_ok-way.way c.loop-i.invariant c.in_ok-way.ensures)
