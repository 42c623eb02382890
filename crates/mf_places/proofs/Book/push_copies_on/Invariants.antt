use Rattle.std.proofs.Common.{◌≡◌, ◌≤◌, ◌-◌, ◌++◌, map, filter, min}
use Rattle.std.specs.List.{range_with_len}
use Rattle.mf_places.specs.declared.Name.TheVariants as name
use Rattle.mf_places.specs.Facts.{chunks_of}
use Rattle.mf_places.specs.Placement.{is_on}
use Rattle.mf_places.proofs.Book.push_copies_on.Given as goal

abbrev pub invariant-loop-i : goal.invariant-loop-i
invariant-loop-i l = (l.i ≤ 2048) × (l.found.items ≡ l.initial.found.items
    ++ filter (is_on l.self l.server) (map (λ i. name.Copy l.c i) (range_with_len 0 (min l.i (chunks_of l.self)))))

abbrev pub decreases-loop-i : goal.decreases-loop-i
decreases-loop-i l = 4096 - l.i
