use Rattle.std.proofs.Common.{◌≡◌, map, take}
use Rattle.std.specs.String.{string_bytes}
use Rattle.mf_lines.specs.Meaning.{names_in}
use Rattle.mf_report.specs.Dumps.{dumps_lines}
use Rattle.mf_report.proofs.dumps.lines_of.Given as goal

abbrev pub invariant-loop-file : goal.invariant-loop-file
invariant-loop-file l =
    map string_bytes l.lines.items ≡ dumps_lines (names_in l.names) l.files (take l.file-index l.dumps)
