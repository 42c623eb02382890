-- The report of a run: the lines of each command that was done, the dumps of files as they rest after it, and the sums
-- of the commands' counts.
use Rattle.std.specs.Prelude.{ℕ, List, ◌++◌, codes, map, filter}
use Rattle.std.specs.List.{flat_map}
use Rattle.mf_vault.specs.declared.io.Io.{Io}
use Rattle.mf_vault.specs.Texts.{io_text}
use Rattle.mf_lines.specs.Meaning.{Script}
use Rattle.mf_lines.specs.Meaning.{names_in}
use Rattle.mf_client.specs.declared.done.Done.{Done}
use Rattle.mf_plain.specs.Resting.{Resting}
use Rattle.mf_report.specs.Lines.{ended}
use Rattle.mf_report.specs.Counts.{total_io}
use Rattle.mf_report.specs.Commands.{converts, done_text}
use Rattle.mf_report.specs.Dumps.{dumps_text}

-- what these commands took, in all
abbrev pub took : List Done → Io
took done = total_io (map (λ (d : Done). d.io) done)

-- those commands that convert
abbrev pub conversions : List Done → List Done
conversions done = filter (λ (d : Done). converts d.act) done

-- the text of a report
abbrev pub report_text : Script → List Done → List Resting → List ℕ
report_text script done files =
    ended (codes "report 1")
    ++ flat_map (done_text (names_in script.files)) done
    ++ dumps_text (names_in script.files) files script.dumps
    ++ ended (codes "total " ++ io_text (took done))
    ++ ended (codes "converts " ++ io_text (took (conversions done)))
    ++ ended (codes "end")
