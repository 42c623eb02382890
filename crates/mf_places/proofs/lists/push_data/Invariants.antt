use Rattle.std.proofs.Common.{◌≡◌, ◌-◌, ◌++◌, map}
use Rattle.std.specs.List.{range_with_len}
use Rattle.mf_places.specs.declared.Name.TheVariants as name
use Rattle.mf_places.proofs.lists.push_data.Given as goal

abbrev pub invariant-loop-i : goal.invariant-loop-i
invariant-loop-i l = l.found.items ≡ l.initial.found.items
    ++ map (λ i. name.Data i) (range_with_len l.from (l.i - l.from))
