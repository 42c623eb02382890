use Rattle.std.proofs.Common.{◌+◌, ◌<◌, length, sym, ap, ◌∙◌, subst, arith}
use Rattle.mf_places.specs.Facts.{BookFacts}
use Rattle.mf_places.specs.Names.{count_of}
use Rattle.mf_vault.specs.declared.answers.Pinned.TheVariants.{At}
use Rattle.mf_vault.specs.Facts.{Facts, stages}
use Rattle.mf_vault.specs.Actor.{Actor}
use Rattle.mf_vault.specs.May.{MayPublish}
use Rattle.mf_vault.proofs.Doing.{facts_kept}
use Rattle.mf_vault.proofs.Entering.{entered, building, pin_is}
use Rattle.mf_vault.proofs.Held.{may_publish_removed}
use Rattle.mf_plain.proofs.Closings.{may_first, close_right, close_hold, hold_at}
use Rattle.tests_life.proofs.resting.closings.Goals as goal

pub publish-requires : goal.publish-requires
publish-requires g c = let e = entered c.if-not-begin.ensures.goes c.in-Absent.ensures.goes in
    may_first (g.A.Access.actor c.pin.new.self) e.building (ap (λ (f : Facts). count_of f.book) e.facts ∙
    c.requires.empty)
    (subst (λ (f : Facts). 0 < stages f) (sym e.facts) c.requires.some)

pub pin-requires-2 : goal.pin-requires-2
pin-requires-2 g c = let e = entered c.if-not-begin.ensures.goes c.in-Absent.ensures.goes in
    ap (λ (z : Actor). z.view.hold) c.publish.ensures.goes.becomes ∙ (e.hold ∙ c.requires.hold)

pub publish-requires-2 : goal.publish-requires-2
publish-requires-2 g c = let e = entered c.if-not-begin.ensures.goes c.in-Absent.ensures.goes in
    let p = c.in-At.ensures.goes.1 in let a = g.A.Access.actor c.pin-2.new.self in
    let b = building p (ap (λ (z : Actor). z.view.build.right) c.publish.ensures.goes.becomes ∙ e.building.right) in
    let same = facts_kept p ∙ facts_kept c.publish.ensures.goes in
    let z = g.A.Access.actor c.publish.new.self in
    let low = (pin_is z.facts c.in-At.ensures.goes.0 (At c.in-At.field-0) z.view p.fair).0 in let kept = ap stages (facts_kept p) in
    let here = ap (λ (f : Facts). stages f) (same ∙ facts_kept c.in-Absent.ensures.goes.1) in
    let count = c.stages-stages.ensures.value ∙ ap (λ (x : BookFacts). length x.shape.stages) c.book.ensures in
    subst (λ n. MayPublish (n + 1) a) (here ∙ sym count) (may_publish_removed a (c.in-At.field-0 + 1) b (omega arith)
    (omega arith))

pub unpin-requires : goal.unpin-requires
unpin-requires g c = let at = hold_at c.in-At.ensures.goes.1 in
    let p = ap (λ (z : Actor). z.view.hold) c.publish-2.ensures.goes.becomes in let o = close_hold
    c.close-over.ensures.goes in omega arith

pub end-requires : goal.end-requires
end-requires g c = let e = entered c.if-not-begin.ensures.goes c.in-Absent.ensures.goes in
    let b = building c.in-At.ensures.goes.1 (ap (λ (z : Actor). z.view.build.right) c.publish.ensures.goes.becomes ∙
    e.building.right) in
    close_right c.close-again.ensures.goes ∙ (close_right c.close-free.ensures.goes ∙
    (ap (λ (z : Actor). z.view.build.right) c.unpin.ensures.goes.becomes
    ∙ (close_right c.close-over.ensures.goes ∙ (ap (λ (z : Actor). z.view.build.right) c.publish-2.ensures.goes.becomes
    ∙ b.right))))
