use Rattle.std.proofs.Common.{ap, length, arith}
use Rattle.mf_client.proofs.Visiting.{visit_grown}
use Rattle.mf_client.proofs.sweeping.visit.Goals as goal

pub count_from-requires : goal.count_from-requires
count_from-requires g c =
    let f = g.A.Access.actor in
    let kept = g.met.A.Access.kept c.args.access.now in
    let more = visit_grown c.args.file c.args.due (f c.args.access.now) (f c.convert_in_turn.new.access)
    c.args.parts.now.items c.convert_in_turn.new.parts.items kept.file.layout c.requires.idle
    c.convert_in_turn.ensures.visited in
    let a = ap length c.ledger-from.ensures in
    let b = ap length c.ledger.ensures in omega arith
