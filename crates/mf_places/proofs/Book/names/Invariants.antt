use Rattle.std.proofs.Common.{◌≡◌, take, filter}
use Rattle.mf_places.specs.Names.{all_names}
use Rattle.mf_places.specs.Generations.{holds}
use Rattle.mf_places.proofs.Book.names.Given as goal

abbrev pub invariant-loop-n : goal.invariant-loop-n
invariant-loop-n l = l.found.items ≡ filter (holds l.self l.g) (take l.n (all_names l.self))
