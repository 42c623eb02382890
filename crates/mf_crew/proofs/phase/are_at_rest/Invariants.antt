use Rattle.std.proofs.Common.{All, take}
use Rattle.mf_plain.specs.Resting.{AtRest}
use Rattle.mf_crew.proofs.phase.are_at_rest.Given as goal

abbrev pub invariant-loop-plain : goal.invariant-loop-plain
invariant-loop-plain l = All AtRest (take l.plain-index l.files)
