use Rattle.std.proofs.Common.{◌≡◌, map, take}
use Rattle.std.specs.Prelude.{slice_index}
use Rattle.mf_decode.proofs.planning.chosen_of.Given as goal

abbrev pub invariant-loop-p : goal.invariant-loop-p
invariant-loop-p l = l.chosen.items ≡ map (λ p. slice_index l.points p) (take l.p-index l.parities)
