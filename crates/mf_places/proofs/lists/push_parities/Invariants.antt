use Rattle.std.proofs.Common.{◌≡◌, ◌++◌, map}
use Rattle.std.specs.List.{range_with_len}
use Rattle.mf_places.specs.declared.Name.TheVariants as name
use Rattle.mf_places.proofs.lists.push_parities.Given as goal

abbrev pub invariant-loop-p : goal.invariant-loop-p
invariant-loop-p l = l.found.items ≡ l.initial.found.items
    ++ map (λ p. name.Parity l.width l.stripe p) (range_with_len 0 l.p)
