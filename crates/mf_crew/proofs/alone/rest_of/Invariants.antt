use Rattle.std.proofs.Common.{◌≡◌, map, Some}
use Rattle.mf_plain.specs.Whole.{actor_of}
use Rattle.mf_crew.specs.Files.{left_by}
use Rattle.mf_crew.proofs.alone.rest_of.Given as goal

abbrev pub invariant-loop-access : goal.invariant-loop-access
invariant-loop-access l = map (λ a. left_by (actor_of a)) l.yielded ≡ map Some l.files.items
