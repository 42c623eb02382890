use Rattle.std.proofs.Common.{rules, arith, ⊎_elim}
use Rattle.mf_shared.specs.Seats.{IsOf}
use Rattle.mf_crew.proofs.Zips.{zip_length}
use Rattle.mf_crew.proofs.Dealing.{rests_all, rests_of, rests_last, rests_more, rests_end}
use Rattle.mf_crew.proofs.live.rest_of.Goals as goal

pub loop-shared-init : goal.loop-shared-init
loop-shared-init c = (
  (tt, tt),
  tt,
  rests_all c.args.shareds.items c.into_iter-shared-iterator.result.a.rest.items c.args.seats.items
      c.into_iter-shared-iterator.result.b.rest.items c.new-files.result.items c.requires.of c.requires.last
      (search rules) (search rules) c.new-files.ensures.items,
)

pub into_plain-requires-clause-of : goal.into_plain-requires-clause-of
into_plain-requires-clause-of c =
    rests_of c.args.shareds.items c.loop-shared.shared-iterator.a.rest.items c.next.new.self.a.rest.items
    c.args.seats.items c.loop-shared.shared-iterator.b.rest.items c.next.new.self.b.rest.items c.loop-shared.files.items
    c.in-Some.shared c.in-Some.seat c.loop-shared.invariant.2 c.in-Some.ensures.steps.0.0 c.in-Some.ensures.steps.1.0

pub into_plain-requires-clause-last : goal.into_plain-requires-clause-last
into_plain-requires-clause-last c =
    rests_last c.args.shareds.items c.loop-shared.shared-iterator.a.rest.items c.args.seats.items
    c.loop-shared.shared-iterator.b.rest.items c.next.new.self.b.rest.items c.loop-shared.files.items c.in-Some.seat
    c.loop-shared.invariant.2 c.in-Some.ensures.steps.1.0

pub loop-shared-preserved : goal.loop-shared-preserved
loop-shared-preserved c = (
  (tt, tt),
  tt,
  rests_more c.args.shareds.items c.loop-shared.shared-iterator.a.rest.items c.next.new.self.a.rest.items
      c.args.seats.items c.loop-shared.shared-iterator.b.rest.items c.next.new.self.b.rest.items
      c.loop-shared.files.items c.push.new.self.items c.in-Some.shared c.in-Some.seat c.into_plain.result
      c.loop-shared.invariant.2 c.in-Some.ensures.steps.0.0 c.in-Some.ensures.steps.1.0 c.into_plain.ensures
      c.in_ok-push.ensures.items,
)

pub returns : goal.returns
returns c =
    rests_end c.args.shareds.items c.loop-shared.shared-iterator.a.rest.items c.args.seats.items
    c.loop-shared.shared-iterator.b.rest.items c.loop-shared.files.items c.loop-shared.invariant.2
    (⊎_elim (λ l. omega (arith, l.1.0, c.loop-shared.shared-iterator.a.rest.ok.0))
    (λ r. omega (
      arith,
      r.1.0,
      c.loop-shared.shared-iterator.b.rest.ok.0,
      zip_length IsOf c.loop-shared.shared-iterator.b.rest.items c.loop-shared.shared-iterator.a.rest.items
          c.loop-shared.invariant.2.of,
    )) c.in-None.ensures.steps)
