use Rattle.std.proofs.Common.{◌+◌, take, refl, sym, ap, subst, arith}
use Rattle.std.proofs.Math.Nat.{mul-le-mul_right}
use Rattle.mf_machine.specs.declared.answer.State.TheVariants.{Unborn}
use Rattle.mf_places.specs.declared.Name.TheVariants.{Data}
use Rattle.mf_vault.specs.Conditions.{IsOfFamily}
use Rattle.mf_vault.specs.Facts.{Facts}
use Rattle.mf_vault.proofs.Doing.{facts_stay}
use Rattle.mf_convert.specs.Convert.{factor_at}
use Rattle.mf_convert.proofs.Courses.{handed_on}
use Rattle.mf_convert.proofs.Steady.{converter_stays, makes_ops}
use Rattle.mf_convert.proofs.Next.{nth_held}
use Rattle.mf_convert.proofs.Making.{making_more, making_cut}
use Rattle.mf_convert.proofs.converting.make_all.Goals as goal

pub make_one-requires-clause-family : goal.make_one-requires-clause-family
make_one-requires-clause-family g c = subst
    (λ (f : Facts). IsOfFamily c.args.family.now.shape c.args.family.now.points f.book)
    (sym (facts_stay c.loop-i.invariant.making.completes.does)) c.requires.family

pub make_one-requires-clause-converter : goal.make_one-requires-clause-converter
make_one-requires-clause-converter g c = converter_stays c.loop-i.invariant.making.completes.does
    (makes_ops (g.A.Access.actor c.args.access.now).facts c.args.course.now.from (take c.loop-i.i c.args.names.now)
    (take c.loop-i.i c.args.states.now)) c.requires.converter

pub make_one-requires-clause-held : goal.make_one-requires-clause-held
make_one-requires-clause-held g c = nth_held (c.args.course.now.from + 1) c.args.names.now c.loop-i.i (Data 0)
    (facts_stay c.loop-i.invariant.making.completes.does) c.requires.names c.loop-i-test.true

pub make_one-requires-clause-found : goal.make_one-requires-clause-found
make_one-requires-clause-found g c =
    c.loop-i.invariant.making.found c.loop-i.i (Data 0) Unborn (omega arith)
    (let low = c.loop-i-test.true in let long = c.requires.long in omega arith)

pub make_one-requires-clause-room : goal.make_one-requires-clause-room
make_one-requires-clause-room g c =
    let f = (g.A.Access.actor c.args.access.now).facts in
    let from = c.args.course.now.from in
    let same = ap (λ (h : Facts). factor_at h.book from) (facts_stay c.loop-i.invariant.making.completes.does) in
    let room = c.loop-i.invariant.room in
    let more = mul-le-mul_right (factor_at f.book from + 1) c.loop-i-test.true in
    omega arith

pub returns-in_err-make_one-clause-cuts : goal.returns-in_err-make_one-clause-cuts
returns-in_err-make_one-clause-cuts g c = handed_on c.from_residual.result _ _ c.from_residual.ensures.1
    (making_cut c.args.names.now c.args.states.now c.loop-i.i c.loop-i.invariant.making c.requires.long
    c.loop-i-test.true
    c.in_err-make_one.ensures.cuts)

pub loop-i-preserved : goal.loop-i-preserved
loop-i-preserved g c =
    let f = (g.A.Access.actor c.args.access.now).facts in
    let from = c.args.course.now.from in
    let same = ap (λ (h : Facts). factor_at h.book from) (facts_stay c.loop-i.invariant.making.completes.does) in
    let room = c.loop-i.invariant.room in
    let spare = c.in_ok-make_one.ensures.room in
    record {
      making = making_more c.args.names.now c.args.states.now c.loop-i.i c.loop-i.invariant.making c.requires.names
          c.requires.long
          c.loop-i-test.true (g.met.A.Access.kept c.args.access.now).file c.requires.converter.low
          (nth_held (c.args.course.now.from + 1) c.args.names.now c.loop-i.i (Data 0) {f = f}
          refl c.requires.names c.loop-i-test.true)
          c.in_ok-make_one.ensures.completes;
      room = omega arith;
    }
