use Rattle.std.proofs.Common.{◌≡◌, ◌∙◌, List, ℕ, ap, sym, subst, cond, arith, leb, length, get_or}
use Rattle.mf_policy.specs.Due.{greatest, has_reached, IsDue}
use Rattle.mf_policy.proofs.Greatest.{greatest_next, is_due}
use Rattle.mf_policy.proofs.ages.due.Goals as goal

pub loop-threshold-preserved : goal.loop-threshold-preserved
loop-threshold-preserved c =
    let i = c.loop-threshold.threshold-index in
    let p = has_reached c.args.policy.now c.args.age in
    let h = c.loop-threshold.invariant in
    let next = h.1 in (
      c.reached_of-stage.ensures
          ∙ ap (λ (ts : List ℕ). cond (leb (get_or ts i 0) c.args.age) c.loop-threshold.next c.loop-threshold.stage)
          c.thresholds-threshold-items.ensures.value
          ∙ (λ j. cond (p i) (h.1 j) (h.0 j))
          ∙ sym (greatest_next p i),
      omega (arith, next),
    )

pub returns-clause-stage : goal.returns-clause-stage
returns-clause-stage c =
    let most = c.loop-threshold.auto.threshold-index-end in
    let least = c.loop-threshold-test.false in
    let long = ap (λ (ts : List ℕ). length ts) c.thresholds-threshold-items.ensures.value in
    let all : c.loop-threshold.threshold-index ≡ length c.args.policy.now = omega arith in
    subst (IsDue c.args.policy.now c.args.age)
    (sym (c.loop-threshold.invariant.0 ∙ ap (greatest (has_reached c.args.policy.now c.args.age)) all))
    (is_due c.args.policy.now c.args.age c.thresholds-threshold-items.ensures.kept)
