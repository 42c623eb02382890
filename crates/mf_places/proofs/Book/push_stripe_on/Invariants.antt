use Rattle.std.proofs.Common.{◌≡◌, ◌++◌, map, filter}
use Rattle.std.specs.List.{range_with_len}
use Rattle.mf_places.specs.declared.Name.TheVariants as name
use Rattle.mf_places.specs.Placement.{is_on}
use Rattle.mf_places.proofs.Book.push_stripe_on.Given as goal

abbrev pub invariant-loop-p : goal.invariant-loop-p
invariant-loop-p l = l.found.items
    ≡ l.initial.found.items ++ filter (is_on l.self l.server) (map (λ p. name.Parity l.width l.j p) (range_with_len 0 l.p))
