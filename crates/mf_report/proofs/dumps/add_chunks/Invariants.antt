use Rattle.std.proofs.Common.{◌≡◌, ◌++◌, map}
use Rattle.std.specs.List.{range_with_len}
use Rattle.std.specs.String.{string_bytes}
use Rattle.mf_report.specs.Dumps.{chunk_text}
use Rattle.mf_report.proofs.dumps.add_chunks.Given as goal

abbrev pub invariant-loop-n : goal.invariant-loop-n
invariant-loop-n l =
    map string_bytes l.lines.items
    ≡ map string_bytes l.initial.lines.items ++ map (chunk_text l.plain) (range_with_len 0 l.n)
