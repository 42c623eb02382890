-- The words of a line, and where they lie.
use Rattle.std.specs.Prelude.{ℕ, ◌+◌, ◌==◌, List, [], ◌∷◌, length}
use Rattle.std.specs.List.{slice_split}
use Rattle.mf_text.specs.declared.lines.Span.{Span}
use Rattle.mf_text.specs.Lines.{span_at}

-- The words of a line: what stands before, between and behind its spaces. So two spaces make an empty word,
-- and an empty line is one empty word.
unfoldable pub words_of : List ℕ → List (List ℕ)
words_of line = slice_split (λ b. b == 32) line

-- where these words lie, which stand one after the other from at with a space between each two
unfoldable pub word_spans_from : ℕ → List (List ℕ) → List Span
word_spans_from at [] = []
word_spans_from at (word ∷ words) = span_at at word ∷ word_spans_from (at + length word + 1) words

-- where the words of a line lie
unfoldable pub word_spans : List ℕ → List Span
word_spans line = word_spans_from 0 (words_of line)
