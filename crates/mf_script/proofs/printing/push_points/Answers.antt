use Rattle.std.proofs.Common.{◌++◌, ◌∷◌, ◌∙◌, ap}
use Rattle.std.specs.Prelude.{codes}
use Rattle.std.specs.List.{flat_map}
use Rattle.std.proofs.lemmas.List.{take_all}
use Rattle.mf_script.proofs.TextLemmas.{spaced, points_end}
use Rattle.mf_script.proofs.printing.push_points.Goals as goal

pub returns : goal.returns
returns c =
    c.loop-point.invariant
    ∙ ap (λ ps. c.args.out.now.items ++ 10 ∷ (codes "points" ++ flat_map spaced ps))
    (take_all c.loop-point.point-index c.args.points.now c.loop-point-test.false)
    ∙ ap (λ r. c.args.out.now.items ++ r) (points_end c.args.points.now)
