use Rattle.std.proofs.Common.{◌≡◌, take, flat_map}
use Rattle.std.specs.String.{string_bytes}
use Rattle.mf_lines.specs.Meaning.{Block}
use Rattle.mf_report.specs.Verdicts.{family_line}
use Rattle.mf_report.proofs.verdicts.accepted_lines.Given as goal

abbrev pub invariant-loop-i : goal.invariant-loop-i
invariant-loop-i l =
    string_bytes l.lines ≡ flat_map (λ (block : Block). family_line block.stages) (take l.i l.script.families)
