use Rattle.std.proofs.Common.{◌≡◌, ◌++◌, take, flat_map}
use Rattle.std.specs.String.{string_bytes}
use Rattle.mf_lines.specs.Meaning.{names_in}
use Rattle.mf_report.specs.Commands.{done_text}
use Rattle.mf_report.proofs.commands.write_commands.Given as goal

abbrev pub invariant-loop-done : goal.invariant-loop-done
invariant-loop-done l =
    string_bytes l.out ≡ string_bytes l.initial.out
    ++ flat_map (done_text (names_in l.files)) (take l.done-index l.commands)
