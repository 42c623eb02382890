use Rattle.std.proofs.Common.{rules, ◌<◌, length, arith}
use Rattle.mf_shared.specs.Seats.{IsOf}
use Rattle.mf_crew.proofs.Zips.{zip_length}
use Rattle.mf_crew.proofs.Dealing.{split_of, joins_none, join_next, join_more}
use Rattle.mf_crew.proofs.live.join_all.Goals as goal

pub loop-seat-init : goal.loop-seat-init
loop-seat-init c =
    joins_none c.args.shareds.now c.args.seats.now.items c.args.gone.items c.into_iter-seat-iterator.result.rest.items
    c.requires.of (search rules)

pub offset_bounds-shareds-i : goal.offset_bounds-shareds-i
offset_bounds-shareds-i c =
    let n = join_next c.args.shareds.now c.args.seats.now.items c.args.gone.items c.loop-seat.i
    c.loop-seat.seat-iterator.rest.items c.next.new.self.rest.items c.loop-seat.yielded c.loop-seat.seats.items
    c.in-Some.seat c.loop-seat.invariant c.in-Some.ensures.steps.0 in
    let within : c.loop-seat.i < length c.args.shareds.now =
    omega (arith, n.within, zip_length IsOf c.args.gone.items c.args.shareds.now c.requires.gone) in
    search rules

pub bounds-shareds-i : goal.bounds-shareds-i
bounds-shareds-i c =
    let n = join_next c.args.shareds.now c.args.seats.now.items c.args.gone.items c.loop-seat.i
    c.loop-seat.seat-iterator.rest.items c.next.new.self.rest.items c.loop-seat.yielded c.loop-seat.seats.items
    c.in-Some.seat c.loop-seat.invariant c.in-Some.ensures.steps.0 in
    omega (arith, n.within, zip_length IsOf c.args.gone.items c.args.shareds.now c.requires.gone)

pub index_mut-requires : goal.index_mut-requires
index_mut-requires c =
    let n = join_next c.args.shareds.now c.args.seats.now.items c.args.gone.items c.loop-seat.i
    c.loop-seat.seat-iterator.rest.items c.next.new.self.rest.items c.loop-seat.yielded c.loop-seat.seats.items
    c.in-Some.seat c.loop-seat.invariant c.in-Some.ensures.steps.0 in
    omega (
      arith,
      n.within,
      zip_length IsOf c.args.gone.items c.args.shareds.now c.requires.gone,
      zip_length IsOf c.loop-seat.seats.items c.args.shareds.now c.loop-seat.invariant.of,
      c.loop-seat.seats.ok.0,
    )

pub join-requires : goal.join-requires
join-requires c =
    let n = join_next c.args.shareds.now c.args.seats.now.items c.args.gone.items c.loop-seat.i
    c.loop-seat.seat-iterator.rest.items c.next.new.self.rest.items c.loop-seat.yielded c.loop-seat.seats.items
    c.in-Some.seat c.loop-seat.invariant c.in-Some.ensures.steps.0 in
    let within : c.loop-seat.i < length c.args.shareds.now =
    omega (arith, n.within, zip_length IsOf c.args.gone.items c.args.shareds.now c.requires.gone) in
    record {
      of = (
        split_of c.loop-seat.seats.items c.args.shareds.now c.loop-seat.i c.index_mut.result.now
            c.index-shareds-i.result c.loop-seat.invariant.of within c.index_mut.ensures.value c.index-shareds-i.is,
        split_of c.args.gone.items c.args.shareds.now c.loop-seat.i c.in-Some.seat c.index-shareds-i.result
            c.requires.gone within n.at c.index-shareds-i.is,
      );
    }

pub loop-seat-preserved : goal.loop-seat-preserved
loop-seat-preserved c =
    let n = join_next c.args.shareds.now c.args.seats.now.items c.args.gone.items c.loop-seat.i
    c.loop-seat.seat-iterator.rest.items c.next.new.self.rest.items c.loop-seat.yielded c.loop-seat.seats.items
    c.in-Some.seat c.loop-seat.invariant c.in-Some.ensures.steps.0 in
    let within : c.loop-seat.i < length c.args.shareds.now =
    omega (arith, n.within, zip_length IsOf c.args.gone.items c.args.shareds.now c.requires.gone) in
    join_more c.args.shareds.now c.args.seats.now.items c.args.gone.items c.loop-seat.i
    c.loop-seat.seat-iterator.rest.items c.next.new.self.rest.items c.loop-seat.yielded c.loop-seat.seats.items
    c.in-Some.seat c.index_mut.result.now c.join.new.into c.index-shareds-i.result c.loop-seat.invariant c.requires.of
    n within c.index_mut.ensures.value c.index-shareds-i.is c.join.ensures.of c.join.ensures.both
