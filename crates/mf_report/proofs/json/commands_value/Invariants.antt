use Rattle.std.proofs.Common.{◌≡◌, map, take}
use Rattle.serde_json.specs.View.{view}
use Rattle.mf_lines.specs.Meaning.{names_in}
use Rattle.mf_report.specs.Json.{done_json}
use Rattle.mf_report.proofs.json.commands_value.Given as goal

abbrev pub invariant-loop-done : goal.invariant-loop-done
invariant-loop-done l =
    map view l.list.items ≡ map (done_json (names_in l.files)) (take l.done-index l.commands)
