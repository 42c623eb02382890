use Rattle.std.proofs.Common.{◌≡◌, map, take}
use Rattle.serde_json.specs.Data.{string}
use Rattle.serde_json.specs.View.{view}
use Rattle.mf_lines.specs.Meaning.{names_in}
use Rattle.mf_report.specs.Commands.{part_text}
use Rattle.mf_report.proofs.json.parts_value.Given as goal

abbrev pub invariant-loop-part : goal.invariant-loop-part
invariant-loop-part l =
    map view l.list.items ≡ map string (map (part_text (names_in l.files)) (take l.part-index l.parts))
