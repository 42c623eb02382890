use Rattle.std.proofs.Common.{map, sym}
use Rattle.std.specs.Prelude.{slice_get}
use Rattle.std.specs.String.{string_bytes}
use Rattle.std.proofs.lemmas.Option.{slice_get_past}
use Rattle.mf_lines.specs.Meaning.{names_in}
use Rattle.mf_lines.specs.LineTexts.{name_at}
use Rattle.mf_report.proofs.Listed.{no_lines}
use Rattle.mf_report.proofs.dumps.add_dump_of.Goals as goal

pub returns-in-None : goal.returns-in-None
returns-in-None c =
    no_lines (map string_bytes c.args.lines.now.items) (name_at (names_in c.args.names.now) c.args.file)
    (slice_get c.args.files.now c.args.file)
    (sym (slice_get_past c.args.files.now c.args.file c.in-None.ensures.lookup.3))
