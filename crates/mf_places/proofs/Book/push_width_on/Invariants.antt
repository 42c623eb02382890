use Rattle.std.proofs.Common.{◌≡◌, ◌++◌, filter}
use Rattle.std.specs.List.{flat_map, range_with_len}
use Rattle.mf_places.specs.Names.{stripe_parities}
use Rattle.mf_places.specs.Placement.{is_on}
use Rattle.mf_places.proofs.Book.push_width_on.Given as goal

abbrev pub invariant-loop-j : goal.invariant-loop-j
invariant-loop-j l = l.found.items ≡ l.initial.found.items
    ++ filter (is_on l.self l.server) (flat_map (stripe_parities l.self l.width) (range_with_len 0 l.j))
