-- The words that lines begin with, the words of a line, and the numbers that they spell.
use Rattle.std.specs.Prelude.{ℕ, nat_lt, Bool, if◌then◌else◌, List, [], ◌∷◌, Option, Some, None, Result, Ok, Err}
use Rattle.std.specs.Prelude.{codes, ok_or}
use Rattle.std.specs.List.{find}
use Rattle.std.specs.Borrow.{Bor}
use Rattle.std.specs.Str.{bytes_eq}
use Rattle.mf_text.specs.Decimal.{decimal_of}
use Rattle.mf_text.specs.Words.{words_of}
use Rattle.mf_lines.specs.declared.parts.Kind.{Kind}
use Rattle.mf_lines.specs.declared.parts.Kind.TheVariants as kind
use Rattle.mf_lines.specs.declared.parts.LimitName.TheVariants as limit
use Rattle.mf_lines.specs.declared.words.Verb.{Verb}
use Rattle.mf_lines.specs.declared.words.Verb.TheVariants as verb
use Rattle.mf_lines.specs.declared.words.LineWord.{LineWord}
use Rattle.mf_lines.specs.declared.words.LineWord.TheVariants as word
use Rattle.mf_lines.specs.declared.words.ContentWord.{ContentWord}
use Rattle.mf_lines.specs.declared.words.ContentWord.TheVariants as content

-- ---- words with a spelling

-- how a command's word is spelled
abbrev pub verb_text : Verb → List ℕ
verb_text verb.Create = codes "create"
verb_text verb.Read = codes "read"
verb_text verb.Hold = codes "hold"
verb_text verb.Release = codes "release"
verb_text verb.Repair = codes "repair"
verb_text verb.Convert = codes "convert"
verb_text verb.Reclaim = codes "reclaim"
verb_text verb.Remove = codes "remove"
verb_text verb.Lose = codes "lose"
verb_text verb.Sweep = codes "sweep"

-- how a line word is spelled
abbrev pub word_text : LineWord → List ℕ
word_text word.Morph = codes "morph"
word_text word.Servers = codes "servers"
word_text word.Chunk = codes "chunk"
word_text word.Points = codes "points"
word_text word.Stage = codes "stage"
word_text word.Policy = codes "policy"
word_text word.File = codes "file"
word_text word.Tick = codes "tick"
word_text word.Phase = codes "phase"
word_text word.Client = codes "client"
word_text (word.Command verb) = verb_text verb
word_text word.Dump = codes "dump"
word_text word.End = codes "end"

-- all line words
abbrev pub line_words : List LineWord
line_words =
    word.Morph ∷ word.Servers ∷ word.Chunk ∷ word.Points ∷ word.Stage ∷ word.Policy ∷ word.File ∷ word.Tick
    ∷ word.Phase ∷ word.Client ∷ word.Command verb.Create ∷ word.Command verb.Read ∷ word.Command verb.Hold
    ∷ word.Command verb.Release ∷ word.Command verb.Repair ∷ word.Command verb.Convert ∷ word.Command verb.Reclaim
    ∷ word.Command verb.Remove ∷ word.Command verb.Lose ∷ word.Command verb.Sweep ∷ word.Dump ∷ word.End ∷ []

-- the line word that these bytes spell
unfoldable pub word_of : List ℕ → Option LineWord
word_of bytes = find (λ w. bytes_eq bytes (word_text w)) line_words

-- how a content word is spelled
abbrev pub content_text : ContentWord → List ℕ
content_text content.Empty = codes "empty"
content_text content.Text = codes "text"
content_text content.Hex = codes "hex"
content_text content.Pattern = codes "pattern"

-- all content words
abbrev pub content_words : List ContentWord
content_words = content.Empty ∷ content.Text ∷ content.Hex ∷ content.Pattern ∷ []

-- the content word that these bytes spell
unfoldable pub content_word_of : List ℕ → Option ContentWord
content_word_of bytes = find (λ w. bytes_eq bytes (content_text w)) content_words

-- ---- what is, or else the fault's kind

infixl 10 ◌>>=◌
-- what follows from it, or the kind
abbrev pub ◌>>=◌ : {A B : Type 0} → Result A Kind → (A → Result B Kind) → Result B Kind
Ok x >>= f = f x
Err k >>= f = Err k

-- a fault of this kind, where it is so
abbrev pub refuse : Bool → Kind → Result (Unit {0}) Kind
refuse b k = if b then Err k else Ok tt

-- ---- the words that are left of a line

-- those of the bytes behind a space, if there is one
abbrev pub behind : Option (Bor (List ℕ)) → List (List ℕ)
behind None = []
behind (Some rest) = words_of rest.now

-- none
abbrev pub no_words : List (List ℕ) → Result (Unit {0}) Kind
no_words [] = Ok tt
no_words words = Err kind.Arity

-- one
abbrev pub one_word : List (List ℕ) → Result (List ℕ) Kind
one_word (a ∷ []) = Ok a
one_word words = Err kind.Arity

-- two
abbrev pub two_words : List (List ℕ) → Result (List ℕ × List ℕ) Kind
two_words (a ∷ b ∷ []) = Ok (a, b)
two_words words = Err kind.Arity

-- three
abbrev pub three_words : List (List ℕ) → Result (List ℕ × List ℕ × List ℕ) Kind
three_words (a ∷ b ∷ c ∷ []) = Ok (a, b, c)
three_words words = Err kind.Arity

-- ---- numbers

-- the number that a word spells
abbrev pub spelled : List ℕ → Result ℕ Kind
spelled word = ok_or (decimal_of word) kind.Number

-- a number that is at most 4,294,967,295
abbrev pub small : ℕ → Result ℕ Kind
small n = if nat_lt 4294967295 n then Err (kind.Limit limit.Number) else Ok n

-- the number that a word spells, which is at most that
abbrev pub number_in : List ℕ → Result ℕ Kind
number_in word = spelled word >>= small
