-- Commands that were done, as they are printed.
use Rattle.std.specs.Prelude.{ℕ, Bool, true, false, List, ◌++◌, codes}
use Rattle.std.specs.List.{flat_map}
use Rattle.mf_vault.specs.Texts.{io_text}
use Rattle.mf_convert.specs.Texts.{change_text}
use Rattle.mf_lines.specs.declared.parts.Act.{Act}
use Rattle.mf_lines.specs.declared.parts.Act.TheVariants as act
use Rattle.mf_lines.specs.declared.forms.Form.TheVariants as says
use Rattle.mf_lines.specs.LineTexts.{name_at, line_text}
use Rattle.mf_client.specs.declared.done.Place.{Place}
use Rattle.mf_client.specs.declared.done.Part.{Part}
use Rattle.mf_client.specs.declared.done.Done.{Done}
use Rattle.mf_client.specs.Texts.{place_text, outcome_text}
use Rattle.mf_report.specs.Lines.{ended}

-- a command as a script has it, where the files have these names
abbrev pub act_text : List (List ℕ) → Act → List ℕ
act_text names act = line_text names (says.Command act)

-- whether the operations of a command count among those of conversions
abbrev pub converts : Act → Bool
converts (act.Convert file away stop) = true
converts act.Sweep = true
converts any_other = false

-- a command, and what came of it
abbrev pub command_text : List (List ℕ) → Done → List ℕ
command_text names done = act_text names done.act ++ codes ": " ++ outcome_text done.outcome

-- the line of a command: where it stands, the command, what came of it, and the operations that it took
abbrev pub done_line : List (List ℕ) → Done → List ℕ
done_line names done = place_text done.place ++ codes " " ++ command_text names done ++ codes " " ++ io_text done.io

-- a part of a command: the file, and what came of it
abbrev pub part_text : List (List ℕ) → Part → List ℕ
part_text names part = name_at names part.file ++ codes " " ++ change_text part.change

-- the line of a part of the command at this place
abbrev pub part_line : List (List ℕ) → Place → Part → List ℕ
part_line names place part = place_text place ++ codes " " ++ part_text names part

-- the lines of a command: its own, and then one for each of its parts
abbrev pub done_text : List (List ℕ) → Done → List ℕ
done_text names done =
    ended (done_line names done) ++ flat_map (λ part. ended (part_line names done.place part)) done.parts
