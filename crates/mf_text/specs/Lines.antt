-- The lines of a text, where they lie, and the first byte that may not stand in one.
use Rattle.std.specs.Prelude.{◌≡◌, ℕ, ◌+◌, ◌==◌, ◌&&◌, ◌≤◌, nat_le, not, Bool, if◌then◌else◌, List, [], ◌∷◌, length}
use Rattle.std.specs.Prelude.{Option, Some, None, take, drop, slice_range}
use Rattle.std.specs.List.{slice_split, list_all, position_or_len}
use Rattle.std.specs.Str.Lines.{lines, strip_carriage_return}
use Rattle.mf_text.specs.declared.lines.Span.{Span}
use Rattle.mf_text.specs.declared.lines.TextFault.{TextFault}
use Rattle.mf_text.specs.declared.lines.SplitFault.{SplitFault}
use Rattle.mf_text.specs.declared.lines.SplitFault.TheVariants.{Text, Memory}

-- The lines of a text. Each ends with LF or CR LF, which is no part of the line. What follows the last LF
-- is a line where it isn't empty, and a CR at its end belongs to it.
unfoldable pub lines_of : List ℕ → List (List ℕ)
lines_of text = lines text

-- from at to at the end of the bytes that lie there
unfoldable pub span_at : ℕ → List ℕ → Span
span_at at bytes = record { start = at; end = at + length bytes }

-- the bytes of a span
abbrev pub piece : List ℕ → Span → List ℕ
piece text span = slice_range text span.start span.end

-- a span of n bytes or a part of them
pub record IsWithin (n : ℕ) (span : Span) : Type 0 where
  pub ordered : span.start ≤ span.end
  pub bounded : span.end ≤ n

-- where the lines of these parts lie, which stand one after the other from at with an LF between each two
unfoldable pub line_spans_from : ℕ → List (List ℕ) → List Span
line_spans_from at [] = []
line_spans_from at (last ∷ []) = if length last == 0 then [] else span_at at last ∷ []
line_spans_from at (part ∷ next ∷ parts) =
    span_at at (strip_carriage_return part) ∷ line_spans_from (at + length part + 1) (next ∷ parts)

-- where the lines of a text lie that itself begins at the byte at
unfoldable pub spans_from : ℕ → List ℕ → List Span
spans_from at text = line_spans_from at (slice_split (λ b. b == 10) text)

-- where the lines of a text lie
abbrev pub line_spans : List ℕ → List Span
line_spans text = spans_from 0 text

-- The first line of the text has len bytes, and whole with its end, and the other lines are those of the text
-- behind these, wherever the text begins.
pub record IsFirstLine (text : List ℕ) (len whole : ℕ) : Type 0 where
  pub line : lines_of text ≡ take len text ∷ lines_of (drop whole text)
  pub span : (at : ℕ) → spans_from at text
      ≡ record { start = at; end = at + len } ∷ spans_from (at + whole) (drop whole text)

-- a byte that may stand in a line
abbrev pub is_printable : ℕ → Bool
is_printable b = nat_le 32 b && nat_le b 126

-- a line of such bytes alone
unfoldable pub is_clean : List ℕ → Bool
is_clean line = list_all is_printable line

-- the column, from 1, of the first byte of a line that may not stand there
unfoldable pub bad_column : List ℕ → ℕ
bad_column line = position_or_len (λ b. not (is_printable b)) line + 1

-- the line and column of the first byte that may not stand in a line, where the first line has number n
unfoldable pub fault_from : ℕ → List (List ℕ) → Option TextFault
fault_from n [] = None
fault_from n (line ∷ rest) =
    if is_clean line then fault_from (n + 1) rest else Some (record { line = n; column = bad_column line })

-- the first byte of a text that may not stand in a line and isn't part of a line's end: its line and column, from 1
unfoldable pub text_fault : List ℕ → Option TextFault
text_fault text = fault_from 1 (lines_of text)

-- what a refusal of `split_lines` says of the text
abbrev pub IsSplitFault : List ℕ → SplitFault → Type 0
IsSplitFault text (Text fault) = text_fault text ≡ Some fault
IsSplitFault text Memory = Unit {0}
