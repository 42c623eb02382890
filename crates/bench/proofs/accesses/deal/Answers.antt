use Rattle.std.proofs.Common.{arith}
use Rattle.mf_shared.specs.Seats.{view_of}
use Rattle.bench.proofs.Filling.{half_left}
use Rattle.bench.proofs.accesses.deal.Goals as goal

pub split-second-requires-clause-share : goal.split-second-requires-clause-share
split-second-requires-clause-share c =
    half_left (view_of c.args.seat.now) _ 2 c.split-first.ensures.old (omega (arith, c.requires.share))

pub split-third-requires-clause-share : goal.split-third-requires-clause-share
split-third-requires-clause-share c =
    half_left (view_of c.split-first.new.seat) _ 2 c.split-second.ensures.old
    (half_left (view_of c.args.seat.now) _ 4 c.split-first.ensures.old (omega (arith, c.requires.share)))

pub split-fourth-requires-clause-share : goal.split-fourth-requires-clause-share
split-fourth-requires-clause-share c =
    half_left (view_of c.split-second.new.seat) _ 2 c.split-third.ensures.old
    (half_left (view_of c.split-first.new.seat) _ 4 c.split-second.ensures.old
    (half_left (view_of c.args.seat.now) _ 8 c.split-first.ensures.old (omega (arith, c.requires.share))))
