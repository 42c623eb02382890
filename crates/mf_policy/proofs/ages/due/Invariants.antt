use Rattle.std.proofs.Common.{◌≡◌}
use Rattle.mf_policy.specs.Due.{greatest, has_reached}
use Rattle.mf_policy.proofs.ages.due.Given as goal

abbrev pub invariant-loop-threshold : goal.invariant-loop-threshold
invariant-loop-threshold l =
    (l.stage ≡ greatest (has_reached l.policy l.age) l.threshold-index) × (l.next ≡ l.threshold-index)
