-- Which forms a text's lines have, or which fault.
use Rattle.std.specs.Prelude.{◌≡◌, ◌<◌, ◌≤◌, ℕ, ◌+◌, ◌⊎◌, List, [], ◌∷◌, ◌++◌, length, Option, Some, None, Ok, Err}
use Rattle.mf_text.specs.Lines.{lines_of}
use Rattle.mf_lines.specs.declared.parts.Kind.{Kind}
use Rattle.mf_lines.specs.declared.parts.Kind.TheVariants as kind
use Rattle.mf_lines.specs.declared.parts.LimitName.TheVariants as limit
use Rattle.mf_lines.specs.declared.words.LineWord.{LineWord}
use Rattle.mf_lines.specs.declared.words.LineWord.TheVariants as word
use Rattle.mf_lines.specs.declared.forms.Form.{Form}
use Rattle.mf_lines.specs.Meaning.{SoFar, so_before, with_line, so_of}
use Rattle.mf_lines.specs.Lines.{form_at}

-- Behind the lines so far these lines have these forms: each has its own, behind all lines before it.
abbrev pub MakeForms : SoFar → List (List ℕ) → List Form → Type 0
MakeForms so [] [] = Unit {0}
MakeForms so (line ∷ lines) (form ∷ forms) = (form_at so line ≡ Ok form) × MakeForms (with_line so form) lines forms
MakeForms so lines forms = ⊥

-- The text's lines have these forms: it isn't too long, each line has its form, and the last is the end.
pub record HasForms (text : List ℕ) (forms : List Form) : Type 0 where
  pub short : length text ≤ 1048576
  pub lines : MakeForms so_before (lines_of text) forms
  pub ended : (so_of forms).last ≡ Some word.End

-- what is wrong with a text that ends behind a line that begins with this word
abbrev pub end_fault : Option LineWord → Option Kind
end_fault None = Some kind.Header
end_fault (Some word.End) = None
end_fault (Some last) = Some kind.Order

-- the text is too long, which is told at line 0
pub record IsTooLong (text : List ℕ) (n : ℕ) (k : Kind) : Type 0 where
  pub long : 1048576 < length text
  pub number : n ≡ 0
  pub is : k ≡ kind.Limit limit.Text

-- Line n has this fault, and each line before it has its form.
pub record IsFirstFault (lines : List (List ℕ)) (n : ℕ) (k : Kind) : Type 0 where
  pub before : List (List ℕ)
  pub line : List ℕ
  pub after : List (List ℕ)
  pub forms : List Form
  pub split : lines ≡ before ++ line ∷ after
  pub number : n ≡ length before + 1
  pub read : MakeForms so_before before forms
  pub is : form_at (so_of forms) line ≡ Err k

-- Each line has its form, and the text may not end behind the last, which is told at the line behind it.
pub record EndsEarly (lines : List (List ℕ)) (n : ℕ) (k : Kind) : Type 0 where
  pub forms : List Form
  pub number : n ≡ length lines + 1
  pub read : MakeForms so_before lines forms
  pub is : end_fault (so_of forms).last ≡ Some k

-- the fault of a text's lines
abbrev pub IsLineFault : List ℕ → ℕ → Kind → Type 0
IsLineFault text n k =
    IsTooLong text n k ⊎ ((length text ≤ 1048576) × (IsFirstFault (lines_of text) n k ⊎ EndsEarly (lines_of text) n k))
