use Rattle.std.proofs.Common.{◌+◌, refl}
use Rattle.mf_crew.proofs.Dealing.{deals_none, deals_more}
use Rattle.mf_crew.proofs.live.deal.Goals as goal

pub loop-behind-init : goal.loop-behind-init
loop-behind-init g c =
    deals_none c.args.shareds.now c.args.seats.now.items c.new-jobs.result.items c.requires.of c.requires.new
    c.new-jobs.ensures.items

pub loop-behind-preserved : goal.loop-behind-preserved
loop-behind-preserved g c =
    deals_more c.args.shareds.now c.loop-behind.behind c.loop-behind.seats.items c.split_all.new.seats.items
    c.loop-behind.jobs.items c.push.new.self.items
    (record { client = c.loop-behind.behind + 1; accesses = c.in_ok-accesses.accesses }) c.loop-behind.invariant
    c.in_ok-accesses.ensures.of c.in_ok-accesses.ensures.new refl c.in_ok-accesses.ensures.actors
    c.in_ok-push.ensures.items
