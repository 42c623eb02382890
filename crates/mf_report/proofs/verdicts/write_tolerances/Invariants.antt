use Rattle.std.proofs.Common.{◌≡◌, ◌++◌, take, flat_map}
use Rattle.std.specs.String.{string_bytes}
use Rattle.mf_report.specs.Verdicts.{tolerance_text}
use Rattle.mf_report.proofs.verdicts.write_tolerances.Given as goal

abbrev pub invariant-loop-g : goal.invariant-loop-g
invariant-loop-g l = string_bytes l.line ≡ string_bytes l.initial.line ++ flat_map tolerance_text (take l.g l.shape.stages)
