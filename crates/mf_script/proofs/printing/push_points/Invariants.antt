use Rattle.std.proofs.Common.{◌≡◌, ◌++◌, ◌∷◌, take}
use Rattle.std.specs.Prelude.{codes}
use Rattle.std.specs.List.{flat_map}
use Rattle.mf_script.proofs.TextLemmas.{spaced}
use Rattle.mf_script.proofs.printing.push_points.Given as goal

abbrev pub invariant-loop-point : goal.invariant-loop-point
invariant-loop-point l =
    l.out.items ≡ l.fn.out.items ++ 10 ∷ (codes "points" ++ flat_map spaced (take l.point-index l.points))
