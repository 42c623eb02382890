-- The report of a run as JSON.
use Rattle.std.specs.Prelude.{ℕ, Bool, true, false, List, map, codes}
use Rattle.serde_json.specs.Data.{Data, number, unsigned, string, array, object, member, no_members}
use Rattle.serde_json.specs.View.{items_of}
use Rattle.serde_json.specs.Written.{compact_text}
use Rattle.mf_vault.specs.declared.io.Io.{Io}
use Rattle.mf_vault.specs.Texts.{io_numbers}
use Rattle.mf_lines.specs.Meaning.{Script, names_in}
use Rattle.mf_client.specs.declared.done.Done.{Done}
use Rattle.mf_plain.specs.Resting.{Resting}
use Rattle.mf_report.specs.Lines.{ended}
use Rattle.mf_report.specs.Commands.{command_text, part_text}
use Rattle.mf_report.specs.Dumps.{dumps_lines}
use Rattle.mf_report.specs.Report.{took, conversions, report_text}

-- a list of texts
abbrev pub texts_json : List (List ℕ) → Data
texts_json texts = array (items_of (map string texts))

-- a list of numbers
abbrev pub numbers_json : List ℕ → Data
numbers_json numbers = array (items_of (map (λ n. number (unsigned n)) numbers))

-- the seven numbers of counts
abbrev pub io_json : Io → Data
io_json io = numbers_json (io_numbers io)

-- a command: its place, the operations that it took, its parts, and the command with what came of it
abbrev pub done_json : List (List ℕ) → Done → Data
done_json names done =
    object
    (member (codes "client") (number (unsigned done.place.client))
    (member (codes "command") (number (unsigned done.place.command))
    (member (codes "io") (io_json done.io)
    (member (codes "parts") (texts_json (map (part_text names) done.parts))
    (member (codes "phase") (number (unsigned done.place.phase))
    (member (codes "text") (string (command_text names done))
    no_members))))))

-- a report: its commands, the counts of those that convert, the lines of all dumps, and the counts of all commands
abbrev pub report_json : Script → List Done → List Resting → Data
report_json script done files =
    object
    (member (codes "commands") (array (items_of (map (done_json (names_in script.files)) done)))
    (member (codes "converts") (io_json (took (conversions done)))
    (member (codes "dumps") (texts_json (dumps_lines (names_in script.files) files script.dumps))
    (member (codes "total") (io_json (took done))
    no_members))))

-- the text of a report as JSON: compact, and with the end of a line
abbrev pub json_text : Script → List Done → List Resting → List ℕ
json_text script done files = ended (compact_text (report_json script done files))

-- the text of a report: as JSON, or line by line
abbrev pub written_text : (json : Bool) → Script → List Done → List Resting → List ℕ
written_text true script done files = json_text script done files
written_text false script done files = report_text script done files
