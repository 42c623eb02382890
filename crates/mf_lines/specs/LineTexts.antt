-- The text of a line.
use Rattle.std.specs.Prelude.{◌≡◌, ℕ, ◌⊎◌, List, [], ◌∷◌, map, slice_index_or, codes, Option, Some, None}
use Rattle.std.specs.List.{join_with_byte}
use Rattle.std.specs.List.Sorted.{IsPermutation}
use Rattle.mf_text.specs.Decimal.{decimal_text}
use Rattle.mf_text.specs.Hex.{hex_text}
use Rattle.mf_places.specs.declared.servers.Servers.{Servers}
use Rattle.mf_places.specs.Servers.{servers_of}
use Rattle.mf_lines.specs.declared.parts.Content.{Content}
use Rattle.mf_lines.specs.declared.parts.Content.TheVariants as given
use Rattle.mf_lines.specs.declared.parts.Act.{Act}
use Rattle.mf_lines.specs.declared.parts.Act.TheVariants as act
use Rattle.mf_lines.specs.declared.words.ContentWord.{ContentWord}
use Rattle.mf_lines.specs.declared.words.ContentWord.TheVariants as content
use Rattle.mf_lines.specs.declared.forms.Form.{Form}
use Rattle.mf_lines.specs.declared.forms.Form.TheVariants as says
use Rattle.mf_lines.specs.declared.words.Verb.{Verb}
use Rattle.mf_lines.specs.Words.{verb_text, word_text, content_text}
use Rattle.mf_lines.specs.Meaning.{first_word}

-- the word that says how the bytes of a file are given
abbrev pub content_word : Content → ContentWord
content_word given.Empty = content.Empty
content_word (given.Text bytes) = content.Text
content_word (given.Hex bytes) = content.Hex
content_word (given.Pattern n start) = content.Pattern

-- what stands behind that word
abbrev pub behind_content : Content → List (List ℕ)
behind_content given.Empty = []
behind_content (given.Text bytes) = bytes ∷ []
behind_content (given.Hex bytes) = hex_text bytes ∷ []
behind_content (given.Pattern n start) = decimal_text n ∷ decimal_text start ∷ []

-- the name of a file
abbrev pub name_at : List (List ℕ) → ℕ → List ℕ
name_at names n = slice_index_or names n []

-- servers behind `without`, or nothing where there is none
abbrev pub listed : List ℕ → List (List ℕ)
listed [] = []
listed (server ∷ servers) = codes "without" ∷ map decimal_text (server ∷ servers)

-- what stands behind the name of a conversion's file: the servers that it can't reach, or after how many operations it
-- stops
abbrev pub limited : Servers → Option ℕ → List (List ℕ)
limited away None = listed (servers_of away)
limited away (Some n) = codes "stop" ∷ decimal_text n ∷ []

-- what stands behind the word of a command; the servers that it can't reach ascend
abbrev pub behind_verb : List (List ℕ) → Act → List (List ℕ)
behind_verb names (act.Create file) = name_at names file ∷ []
behind_verb names (act.Read file away) = name_at names file ∷ listed (servers_of away)
behind_verb names (act.Hold file) = name_at names file ∷ []
behind_verb names (act.Release file) = name_at names file ∷ []
behind_verb names (act.Repair file away) = name_at names file ∷ listed (servers_of away)
behind_verb names (act.Convert file away stop) = name_at names file ∷ limited away stop
behind_verb names (act.Reclaim file) = name_at names file ∷ []
behind_verb names (act.Remove file) = name_at names file ∷ []
behind_verb names (act.Lose server) = decimal_text server ∷ []
behind_verb names act.Sweep = []

-- what stands behind a line's first word
abbrev pub behind_word : List (List ℕ) → Form → List (List ℕ)
behind_word names says.Morph = codes "1" ∷ []
behind_word names (says.Servers n) = decimal_text n ∷ []
behind_word names (says.Chunk n) = decimal_text n ∷ []
behind_word names (says.Points points) = map decimal_text points
behind_word names (says.Stage stage) =
    decimal_text stage.width ∷ decimal_text stage.parities ∷ decimal_text stage.copies ∷ []
behind_word names (says.Policy thresholds) = map decimal_text thresholds
behind_word names (says.File file) = file.name ∷ content_text (content_word file.content) ∷ behind_content file.content
behind_word names (says.Tick ticks) = decimal_text ticks ∷ []
behind_word names (says.Command act) = behind_verb names act
behind_word names (says.Dump file) = name_at names file ∷ []
behind_word names form = []

-- a word behind a space
abbrev pub spaced : List ℕ → List ℕ
spaced word = 32 ∷ word

-- a line of this form: its first word and what stands behind it, with one space between each two
unfoldable pub line_text : List (List ℕ) → Form → List ℕ
line_text names form = join_with_byte 32 (word_text (first_word form) ∷ behind_word names form)

-- The lines are one command, with its servers behind `without` in another order.
pub record IsReordered (line other : List ℕ) : Type 0 where
  pub verb : Verb
  pub name : List ℕ
  pub servers : List (List ℕ)
  pub others : List (List ℕ)
  pub is : line ≡ join_with_byte 32 (verb_text verb ∷ name ∷ codes "without" ∷ servers)
  pub other_is : other ≡ join_with_byte 32 (verb_text verb ∷ name ∷ codes "without" ∷ others)
  pub same : IsPermutation servers others

-- the lines are the same but for the order of servers behind `without`
abbrev pub Alike : List ℕ → List ℕ → Type 0
Alike line other = (line ≡ other) ⊎ IsReordered line other
