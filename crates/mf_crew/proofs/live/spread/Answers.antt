use Rattle.std.proofs.Common.{rules}
use Rattle.mf_crew.proofs.Dealing.{spread_none, spread_more}
use Rattle.mf_crew.proofs.live.spread.Goals as goal

pub loop-plain-init : goal.loop-plain-init
loop-plain-init c =
    spread_none c.args.now c.args.losses.now c.new-shareds.result.items c.new-seats.result.items
    c.new-shareds.ensures.items c.new-seats.ensures.items

pub loop-plain-preserved : goal.loop-plain-preserved
loop-plain-preserved c =
    spread_more c.args.now c.args.losses.now c.loop-plain.yielded c.loop-plain.shareds.items c.push.new.self.items
    c.loop-plain.seats.items c.push-in-loop-plain.new.self.items c.in-Some.plain c.in_ok-shared.shared
    c.in_ok-shared.seat c.loop-plain.invariant c.in_ok-shared.ensures.of c.in_ok-shared.ensures.found
    c.in_ok-shared.ensures.view (search rules) (search rules)
