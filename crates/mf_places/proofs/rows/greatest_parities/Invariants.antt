use Rattle.std.proofs.Common.{◌≡◌, take}
use Rattle.mf_places.specs.Names.{max_parities}
use Rattle.mf_places.proofs.rows.greatest_parities.Given as goal

abbrev pub invariant-loop-stage : goal.invariant-loop-stage
invariant-loop-stage l = l.greatest ≡ max_parities l.width (take l.stage-index l.stages)
