use Rattle.std.proofs.Common.{◌≡◌, ◌++◌}
use Rattle.std.specs.List.{flat_map, range_with_len}
use Rattle.std.specs.String.{string_bytes}
use Rattle.mf_script.specs.Seeds.{creator_lines}
use Rattle.mf_script.proofs.seeds.write_creators.Given as goal

abbrev pub invariant-loop-client : goal.invariant-loop-client
invariant-loop-client l =
    string_bytes l.out ≡ string_bytes l.fn.out ++ flat_map creator_lines (range_with_len 0 l.client)
