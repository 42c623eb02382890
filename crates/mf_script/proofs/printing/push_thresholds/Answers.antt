use Rattle.std.proofs.Common.{◌++◌, ◌∷◌, ◌∙◌, ap}
use Rattle.std.specs.Prelude.{codes}
use Rattle.std.specs.List.{flat_map}
use Rattle.std.proofs.lemmas.List.{take_all}
use Rattle.mf_script.proofs.TextLemmas.{spaced, thresholds_end}
use Rattle.mf_script.proofs.printing.push_thresholds.Goals as goal

pub returns : goal.returns
returns c =
    c.loop-threshold.invariant
    ∙ ap (λ ts. c.args.out.now.items ++ 10 ∷ (codes "policy" ++ flat_map spaced ts))
    (take_all c.loop-threshold.threshold-index c.args.thresholds.now c.loop-threshold-test.false)
    ∙ ap (λ r. c.args.out.now.items ++ r) (thresholds_end c.args.thresholds.now)
