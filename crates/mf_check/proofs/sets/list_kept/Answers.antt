use Rattle.std.proofs.Common.{◌≡◌, ◌≤◌, ◌<◌, ◌+◌, ◌-◌, ℕ, List, ◌++◌, Vec, get_or, length, ap, ap₂, ◌∙◌, arith}
use Rattle.std.specs.Global.{Global}
use Rattle.mf_erasure.specs.Erasure.{others_from}
use Rattle.mf_check.proofs.Parts.{gone_from, gone_step, kept_step, all_kept}
use Rattle.mf_check.proofs.sets.list_kept.Goals as goal
use Rattle.mf_check.proofs.sets.list_kept.Goals.{then-stands_at, else-stands_at+in_ok-push}

pub loop-p-preserved : goal.loop-p-preserved
loop-p-preserved c =
    let places = c.args.places.now in
    let width = c.args.width in
    let count = c.args.count in
    let p = c.loop-p.p in
    let next = c.loop-p.next in
    let whole = others_from 0 count (gone_from width c.args.first places) in
    let rest_at : List ℕ → ℕ → List ℕ = λ kept m. kept ++ others_from (p + 1) (count - (p + 1))
    (gone_from width m places) in
    elim c.if-stands_at.branch [
      | then-stands_at w ↦ (
          let yes = w.if-stands_at.ensures.yes in
          let inside : next < length places = yes.0 in
          let next_is : c.if-stands_at.next ≡ next + 1 = w.next-is in
          record {
            from_first = omega arith;
            within = omega arith;
            rest = ap₂ rest_at (ap (λ (v : Vec ℕ Global). v.items) w.kept-is) next_is
                ∙ gone_step width p count next places c.loop-p.kept.items whole c.loop-p-test.true yes.0 yes.1
                c.loop-p.invariant.rest;
          })
      | else-stands_at+in_ok-push w ↦ (
          let next_is : c.if-stands_at.next ≡ next = w.next-is in
          let high : next < length places → width ≤ get_or places next 0 =
          λ lt. c.requires.parities next c.loop-p.invariant.from_first lt in
          record {
            from_first = omega arith;
            within = omega arith;
            rest = ap₂ rest_at (ap (λ (v : Vec ℕ Global). v.items) w.kept-is ∙ w.in_ok-push.ensures.items) next_is
                ∙ kept_step width p count next places c.loop-p.kept.items whole c.loop-p-test.true high
                w.if-stands_at.ensures.no c.loop-p.invariant.rest;
          })
    ]

pub returns : goal.returns
returns c =
    all_kept c.args.width c.loop-p.p c.args.count c.loop-p.next c.args.places.now c.loop-p.kept.items
    (others_from 0 c.args.count (gone_from c.args.width c.args.first c.args.places.now)) c.loop-p-test.false
    c.loop-p.invariant.rest
