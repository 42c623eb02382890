use Rattle.std.proofs.Common.{◌≡◌, ◌<◌, ◌+◌, true, false, cond, ap, sym, ◌∙◌, subst, arith}
use Rattle.mf_places.specs.Facts.{BookFacts}
use Rattle.mf_places.specs.Names.{HasName, count_of, name_at}
use Rattle.mf_reclaim.specs.Reclaim.{is_free}
use Rattle.mf_reclaim.proofs.Discards.{may_discard, leaves_discarded, shown_discarded, discarding_more}
use Rattle.mf_reclaim.proofs.Discards.{discarding_less, discarding_all}
use Rattle.mf_reclaim.proofs.reclaiming.discard_all.Goals as goal
use Rattle.mf_reclaim.proofs.reclaiming.discard_all.Goals.{then-is_free+then-discard, else-is_free}
use Rattle.mf_reclaim.proofs.reclaiming.discard_all.Goals.{else-is_free-via-then-is_free+else-discard}
use Rattle.mf_reclaim.proofs.reclaiming.discard_all.Goals.{else-is_free-via-else-is_free}

pub discard-requires-clause-may : goal.discard-requires-clause-may
discard-requires-clause-may g c =
    may_discard c.args.answers.now c.name-name.result (g.A.Access.actor c.loop-n.access)
    (subst (λ (b : BookFacts). HasName b c.name-name.result) c.book-in-loop-n.ensures c.name-name.ensures.had)
    (ap (λ (b : BookFacts). is_free b c.args.answers.now c.name-name.result) (sym c.book-in-loop-n-2.ensures)
    ∙ (sym c.is_free.ensures ∙ c.if-is_free.true))
    c.loop-n.invariant.shown

pub loop-n-preserved : goal.loop-n-preserved
loop-n-preserved g c =
    let v = c.loop-n.invariant in
    let a = g.A.Access.actor c.args.access.now in
    let x = c.name-name.result in
    let facts = ap (λ f. f.book) v.leaves.facts in
    let first = c.book-in-loop-n.ensures ∙ facts in
    let second = c.book-in-loop-n-2.ensures ∙ facts in
    let below : c.loop-n.n < count_of a.facts.book = let e = c.count-n-end.ensures.value
    ∙ ap count_of c.book.ensures in let t = c.loop-n-test.true in omega arith in
    let at : x ≡ name_at a.facts.book c.loop-n.n = c.name-name.ensures.value ∙ ap
    (λ (b : BookFacts). name_at b c.loop-n.n) first in
    let test = ap (λ (b : BookFacts). is_free b c.args.answers.now x) (sym second) ∙ sym c.is_free.ensures in
    let room = v.room in
    elim c.if-is_free.branch [
      | then-is_free+then-discard w ↦
          let spare = w.discard.ensures.spare in
          let free : is_free a.facts.book c.args.answers.now x ≡ true = test ∙ w.if-is_free.true in
          rw w.access-is (rw w.dropped-is record {
            discarding = discarding_more x v.discarding below at free (ap (λ b. c.loop-n.dropped + cond b 1 0)
                (sym w.if-discard.true)) w.discard.ensures.goes;
            shown = shown_discarded c.args.answers.now v.shown w.discard.ensures.goes;
            leaves = leaves_discarded v.leaves w.discard.ensures.goes;
            room = omega arith;
          })
      | else-is_free w ↦ elim w.else-is_free.branch [
        | else-is_free-via-then-is_free+else-discard u ↦
            let spare = u.discard.ensures.spare in
            let free : is_free a.facts.book c.args.answers.now x ≡ true = test ∙ u.if-is_free.true in
            let none : c.loop-n.dropped ≡ c.loop-n.dropped + 0 = omega arith in
            rw w.access-is (rw w.dropped-is (rw u.access-is record {
              discarding = discarding_more x v.discarding below at free
                  (none ∙ ap (λ b. c.loop-n.dropped + cond b 1 0) (sym u.if-discard.false)) u.discard.ensures.goes;
              shown = shown_discarded c.args.answers.now v.shown u.discard.ensures.goes;
              leaves = leaves_discarded v.leaves u.discard.ensures.goes;
              room = omega arith;
            }))
        | else-is_free-via-else-is_free u ↦
            let held : is_free a.facts.book c.args.answers.now x ≡ false = test ∙ u.if-is_free.false in
            rw w.access-is (rw w.dropped-is (rw u.access-is record {
              discarding = discarding_less x v.discarding below at held;
              shown = v.shown;
              leaves = v.leaves;
              room = omega arith;
            }))
      ]
    ]

pub returns-clause-discards : goal.returns-clause-discards
returns-clause-discards g c = discarding_all c.loop-n.invariant.discarding
    (let e = c.count-n-end.ensures.value ∙ ap count_of c.book.ensures in let t = c.loop-n-test.false in omega arith)
