use Rattle.std.proofs.Common.{◌≡◌, map}
use Rattle.mf_plain.specs.Alone.{first_actor}
use Rattle.mf_plain.specs.Whole.{actor_of}
use Rattle.mf_crew.proofs.alone.accesses_of.Given as goal

abbrev pub invariant-loop-plain : goal.invariant-loop-plain
invariant-loop-plain l = map actor_of l.accesses.items ≡ map (λ r. first_actor r l.now l.losses) l.yielded
