use Rattle.std.proofs.Common.{◌≡◌, ◌++◌, map}
use Rattle.std.specs.List.{range_with_len}
use Rattle.std.specs.String.{string_bytes}
use Rattle.mf_report.specs.Dumps.{generation_text}
use Rattle.mf_report.proofs.dumps.add_generations.Given as goal

abbrev pub invariant-loop-g : goal.invariant-loop-g
invariant-loop-g l =
    map string_bytes l.lines.items
    ≡ map string_bytes l.initial.lines.items ++ map (generation_text l.plain) (range_with_len 0 l.g)
