use Rattle.std.proofs.Common.{◌∷◌, [], map, ap, ◌∙◌, arith}
use Rattle.std.proofs.lemmas.List.{map-append}
use Rattle.mf_shared.specs.Whole.{told_by}
use Rattle.mf_crew.proofs.Dealing.{split_of, split_share, split_more, splits_views, splits_actors}
use Rattle.mf_crew.proofs.live.split_all.Goals as goal

pub split-seat-requires-clause-of : goal.split-seat-requires-clause-of
split-seat-requires-clause-of g c =
    split_of c.loop-i.seats.items c.args.shareds.now c.loop-i.i c.index_mut.result.now c.index-shareds-i.result
    c.loop-i.invariant.of c.loop-i-test.true c.index_mut.ensures.value c.index-shareds-i.is

pub split-seat-requires-clause-share : goal.split-seat-requires-clause-share
split-seat-requires-clause-share g c =
    split_share c.args.behind c.loop-i.i c.args.shareds.now c.loop-i.seats.items (map told_by c.loop-i.accesses.items)
    c.index_mut.result.now c.index-shareds-i.result c.loop-i.invariant c.requires.few c.loop-i-test.true
    c.index_mut.ensures.value c.index-shareds-i.is

pub loop-i-preserved : goal.loop-i-preserved
loop-i-preserved g c =
    split_more c.args.behind c.loop-i.i c.args.shareds.now c.loop-i.seats.items (map told_by c.loop-i.accesses.items)
    (map told_by c.push.new.self.items) c.index_mut.result.now c.split-seat.new.seat c.split-seat.result
    c.index-shareds-i.result (told_by c.new.result) c.loop-i.invariant c.requires.few c.loop-i-test.true
    c.index_mut.ensures.value c.index-shareds-i.is c.split-seat.ensures.of.0 c.split-seat.ensures.old
    c.split-seat.ensures.new c.new.ensures
    (ap (map told_by) c.in_ok-push.ensures.items ∙ map-append told_by c.loop-i.accesses.items (c.new.result ∷ []))

pub returns-clause-new : goal.returns-clause-new
returns-clause-new g c =
    splits_views c.args.behind c.loop-i.i c.args.shareds.now c.loop-i.seats.items (map told_by c.loop-i.accesses.items)
    c.loop-i.invariant (omega (arith, c.loop-i-test.false))

pub returns-clause-actors : goal.returns-clause-actors
returns-clause-actors g c =
    splits_actors c.args.behind c.loop-i.i c.args.shareds.now c.loop-i.seats.items
    (map told_by c.loop-i.accesses.items) c.loop-i.invariant (omega (arith, c.loop-i-test.false))
