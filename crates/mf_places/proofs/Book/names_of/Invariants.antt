use Rattle.std.proofs.Common.{◌≡◌, ◌++◌}
use Rattle.std.specs.List.{flat_map, range_with_len}
use Rattle.mf_places.specs.Generations.{data_of_stripe, copy_of_stripe}
use Rattle.mf_places.proofs.Book.names_of.Given as goal

abbrev pub invariant-loop-c : goal.invariant-loop-c
invariant-loop-c l =
    l.found.items ≡ data_of_stripe l.self l.g l.stripe
    ++ flat_map (copy_of_stripe l.self l.g l.stripe) (range_with_len 0 l.c)
