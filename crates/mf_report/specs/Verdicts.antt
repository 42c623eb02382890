-- What is written where no report is: the lines of families, or that of a refusal.
use Rattle.std.specs.Prelude.{ℕ, ◌+◌, List, ◌++◌, codes, length}
use Rattle.std.specs.List.{flat_map}
use Rattle.mf_shape.specs.declared.Stage.{Stage}
use Rattle.mf_lines.specs.declared.parts.LimitName.TheVariants as limit
use Rattle.mf_lines.specs.declared.parts.Kind.TheVariants as kind
use Rattle.mf_lines.specs.declared.parts.ScriptFault.{ScriptFault}
use Rattle.mf_lines.specs.FaultTexts.{kind_text}
use Rattle.mf_lines.specs.Meaning.{Block}
use Rattle.mf_report.specs.Lines.{ended, spaced}

-- how many lost names of one stripe a stage bears, behind a space
abbrev pub tolerance_text : Stage → List ℕ
tolerance_text stage = spaced (stage.copies + stage.parities)

-- an accepted family with these stages: their number, and the tolerance of each, stage 0 first
abbrev pub family_line : List Stage → List ℕ
family_line stages =
    ended (codes "family ok stages" ++ spaced (length stages) ++ codes " tolerance" ++ flat_map tolerance_text stages)

-- the accepted families of a script, one line each
abbrev pub accepted_text : List Block → List ℕ
accepted_text families = flat_map (λ (block : Block). family_line block.stages) families

-- a refused script: the line of its fault, or 0 for the whole text, and what is wrong there
abbrev pub refused_text : ScriptFault → List ℕ
refused_text fault = ended (codes "refused line" ++ spaced fault.line ++ codes " " ++ kind_text fault.kind)

-- the fault of a text with too many bytes
abbrev pub too_long : ScriptFault
too_long = record { line = 0; kind = kind.Limit limit.Text }

-- the words are none of those that the program knows
abbrev pub words_refusal : List ℕ
words_refusal = ended (codes "refused words")
