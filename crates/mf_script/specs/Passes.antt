-- What a text's lines add up to, or its fault, as one pass over the lines finds it.
use Rattle.std.specs.Prelude.{◌≡◌, ◌≢◌, ℕ, ◌+◌, nat_lt, if◌then◌else◌, List, [], ◌∷◌, length, Option, Some, None}
use Rattle.std.specs.Prelude.{Result, Ok, Err}
use Rattle.mf_text.specs.Lines.{lines_of}
use Rattle.mf_lines.specs.declared.parts.Kind.{Kind}
use Rattle.mf_lines.specs.declared.parts.Kind.TheVariants as kind
use Rattle.mf_lines.specs.declared.parts.LimitName.TheVariants as limit
use Rattle.mf_lines.specs.declared.parts.ScriptFault.{ScriptFault}
use Rattle.mf_lines.specs.declared.draft.Draft.{Draft}
use Rattle.mf_lines.specs.declared.forms.Form.{Form}
use Rattle.mf_lines.specs.Meaning.{SoFar, so_before, with_line}
use Rattle.mf_lines.specs.Lines.{form_at}
use Rattle.mf_lines.specs.Drafts.{so_in}
use Rattle.mf_script.specs.Texts.{end_fault}

-- the lines so far, or what is wrong with a text that ends behind them
abbrev pub at_end : SoFar → Option Kind → Result SoFar ScriptFault
at_end so None = Ok so
at_end so (Some k) = Err (record { line = so.lines + 1; kind = k })

-- what follows where the next line has a form, or its fault
abbrev pub after : SoFar → Result Form Kind → (Form → Result SoFar ScriptFault) → Result SoFar ScriptFault
after so (Ok form) next = next form
after so (Err k) next = Err (record { line = so.lines + 1; kind = k })

-- what the lines so far and these add up to, or the fault of the first that has one
unfoldable pub read_lines : SoFar → List (List ℕ) → Result SoFar ScriptFault
read_lines so [] = at_end so (end_fault so.last)
read_lines so (line ∷ lines) = after so (form_at so line) (λ form. read_lines (with_line so form) lines)

-- what a text's lines add up to, or its fault; a text that is too long has it before all else
unfoldable pub read_text : List ℕ → Result SoFar ScriptFault
read_text text =
    if nat_lt 1048576 (length text) then Err (record { line = 0; kind = kind.Limit limit.Text })
    else read_lines so_before (lines_of text)

-- it was read so, or memory ran out
abbrev pub Reads : Result Draft ScriptFault → Result SoFar ScriptFault → Type 0
Reads (Ok draft) read = read ≡ Ok (so_in draft)
Reads (Err fault) read = fault.kind ≢ kind.Memory → read ≡ Err fault
