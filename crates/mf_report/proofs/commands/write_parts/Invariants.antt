use Rattle.std.proofs.Common.{◌≡◌, ◌++◌, take, flat_map}
use Rattle.std.specs.String.{string_bytes}
use Rattle.mf_lines.specs.Meaning.{names_in}
use Rattle.mf_report.specs.Lines.{ended}
use Rattle.mf_report.specs.Commands.{part_line}
use Rattle.mf_report.proofs.commands.write_parts.Given as goal

abbrev pub invariant-loop-part : goal.invariant-loop-part
invariant-loop-part l =
    string_bytes l.out ≡ string_bytes l.initial.out
    ++ flat_map (λ part. ended (part_line (names_in l.files) l.place part)) (take l.part-index l.parts)
