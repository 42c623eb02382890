use Rattle.std.proofs.Common.{◌≡◌, ◌++◌, filter}
use Rattle.std.specs.List.{flat_map, range_with_len}
use Rattle.mf_places.specs.Names.{data_names, copies_named, copy_names, width_parities}
use Rattle.mf_places.specs.Placement.{is_on}
use Rattle.mf_places.proofs.Book.names_on.Given as goal

abbrev pub invariant-loop-c : goal.invariant-loop-c
invariant-loop-c l = l.found.items ≡ filter (is_on l.self l.server) (data_names l.self)
    ++ filter (is_on l.self l.server) (flat_map (copies_named l.self) (range_with_len 0 l.c))

abbrev pub invariant-loop-width : goal.invariant-loop-width
invariant-loop-width l = l.found.items ≡ filter (is_on l.self l.server) (data_names l.self ++ copy_names l.self)
    ++ filter (is_on l.self l.server) (flat_map (width_parities l.self) (range_with_len 0 l.width))
