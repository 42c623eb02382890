use Rattle.std.proofs.Common.{◌≡◌, ◌++◌, map, take, flat_map}
use Rattle.std.specs.String.{string_bytes}
use Rattle.mf_report.specs.Lines.{ended}
use Rattle.mf_report.proofs.writing.write_lines.Given as goal

abbrev pub invariant-loop-line : goal.invariant-loop-line
invariant-loop-line l =
    string_bytes l.out ≡ string_bytes l.initial.out ++ flat_map ended (map string_bytes (take l.line-index l.lines))
