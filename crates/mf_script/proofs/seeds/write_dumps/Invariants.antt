use Rattle.std.proofs.Common.{◌≡◌, ◌++◌}
use Rattle.std.specs.List.{flat_map, range_with_len}
use Rattle.std.specs.Prelude.{codes}
use Rattle.std.specs.String.{string_bytes}
use Rattle.mf_script.specs.Seeds.{ended, on_file}
use Rattle.mf_script.proofs.seeds.write_dumps.Given as goal

abbrev pub invariant-loop-file : goal.invariant-loop-file
invariant-loop-file l =
    string_bytes l.out ≡ string_bytes l.fn.out ++ flat_map (λ i. ended (on_file (codes "dump") i)) (range_with_len 0 l.file)
