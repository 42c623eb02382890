use Rattle.std.proofs.Common.{◌≡◌, ◌++◌, ◌∷◌, take}
use Rattle.std.specs.Prelude.{codes}
use Rattle.std.specs.List.{flat_map}
use Rattle.mf_script.proofs.TextLemmas.{spaced}
use Rattle.mf_script.proofs.printing.push_thresholds.Given as goal

abbrev pub invariant-loop-threshold : goal.invariant-loop-threshold
invariant-loop-threshold l =
    l.out.items ≡ l.fn.out.items ++ 10 ∷ (codes "policy" ++ flat_map spaced (take l.threshold-index l.thresholds))
