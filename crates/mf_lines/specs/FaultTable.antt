-- The table of a line's faults: a row for each kind and each limit, in the order in which they are tried. A row says
-- where its kind comes by the line's words, their numbers and the counts of the lines so far. It doesn't depend on the
-- rows before it.
use Rattle.std.specs.Prelude.{◌≡◌, ℕ, ◌==◌, ◌&&◌, ◌||◌, not, nat_lt, nat_le, Bool, true, false, if◌then◌else◌, List, []}
use Rattle.std.specs.Prelude.{◌∷◌, map, length, Option, Some, None, is_none, unwrap_or, Result, Ok, Err, codes}
use Rattle.std.specs.Int.{div_ceil}
use Rattle.std.specs.List.{list_any, join_with_byte}
use Rattle.std.specs.Str.{bytes_eq}
use Rattle.mf_text.specs.Decimal.{decimal_of}
use Rattle.mf_text.specs.Hex.{hex_of}
use Rattle.mf_text.specs.Lines.{is_clean}
use Rattle.mf_text.specs.Words.{words_of}
use Rattle.mf_lines.specs.declared.parts.Kind.{Kind}
use Rattle.mf_lines.specs.declared.parts.Kind.TheVariants as kind
use Rattle.mf_lines.specs.declared.parts.LimitName.TheVariants as limit
use Rattle.mf_lines.specs.declared.words.Verb.{Verb}
use Rattle.mf_lines.specs.declared.words.Verb.TheVariants as verb
use Rattle.mf_lines.specs.declared.words.LineWord.{LineWord}
use Rattle.mf_lines.specs.declared.words.LineWord.TheVariants as word
use Rattle.mf_lines.specs.declared.words.ContentWord.{ContentWord}
use Rattle.mf_lines.specs.declared.words.ContentWord.TheVariants as content
use Rattle.mf_lines.specs.Names.{is_name}
use Rattle.mf_lines.specs.Words.{word_of, content_word_of}
use Rattle.mf_lines.specs.Meaning.{SoFar, names_in, main_of}
use Rattle.mf_lines.specs.Lines.{is_above, are_thresholds, file_number, has_name, has_twice, lacks_server, may_follow}
use Rattle.mf_lines.specs.Lines.{form_at}

-- ---- what stands where, by a line's first word and the words behind it

-- the number that a word spells; a word that spells none counts as 0
abbrev pub value : List ℕ → ℕ
value word = unwrap_or (decimal_of word) 0

-- the words behind a command's file and `without` or `stop`
abbrev pub option_words : List (List ℕ) → List (List ℕ)
option_words (name ∷ option ∷ words) = words
option_words words = []

-- of these the words behind `without`
abbrev pub without_words : List (List ℕ) → List (List ℕ)
without_words (name ∷ option ∷ words) = if bytes_eq option (codes "without") then words else []
without_words words = []

-- a file and, where more words stand there, `without` with one server or more
abbrev pub is_without : List (List ℕ) → Bool
is_without (name ∷ []) = true
is_without (name ∷ option ∷ server ∷ servers) = bytes_eq option (codes "without")
is_without words = false

-- a file, `stop` and one word
abbrev pub is_stop : List (List ℕ) → Bool
is_stop (name ∷ option ∷ number ∷ []) = bytes_eq option (codes "stop")
is_stop words = false

-- the content word of a file line
abbrev pub content_at : List (List ℕ) → Option ContentWord
content_at (name ∷ content ∷ words) = content_word_of content
content_at words = None

-- the words behind it
abbrev pub content_words_at : List (List ℕ) → List (List ℕ)
content_words_at (name ∷ content ∷ words) = words
content_words_at words = []

-- the words in the places of servers
abbrev pub server_words : LineWord → List (List ℕ) → List (List ℕ)
server_words (word.Command verb.Lose) words = words
server_words (word.Command verb.Read) words = without_words words
server_words (word.Command verb.Repair) words = without_words words
server_words (word.Command verb.Convert) words = without_words words
server_words first words = []

-- the word in the place of a file that an earlier line must have
abbrev pub file_words : LineWord → List (List ℕ) → List (List ℕ)
file_words (word.Command verb.Lose) words = []
file_words (word.Command verb.Sweep) words = []
file_words (word.Command verb) (name ∷ words) = name ∷ []
file_words word.Dump (name ∷ words) = name ∷ []
file_words first words = []

-- the numbers of a file's content
abbrev pub content_numbers : Option ContentWord → List (List ℕ) → List (List ℕ)
content_numbers (Some content.Pattern) words = words
content_numbers given words = []

-- the words in the places of numbers
abbrev pub number_words : LineWord → List (List ℕ) → List (List ℕ)
number_words word.Servers words = words
number_words word.Chunk words = words
number_words word.Points words = words
number_words word.Stage words = words
number_words word.Policy words = words
number_words word.Tick words = words
number_words word.File words = content_numbers (content_at words) (content_words_at words)
number_words (word.Command verb.Lose) words = words
number_words (word.Command verb.Read) words = option_words words
number_words (word.Command verb.Repair) words = option_words words
number_words (word.Command verb.Convert) words = option_words words
number_words first words = []

-- whether one of these words spells a number above this
abbrev pub spells_above : ℕ → List (List ℕ) → Bool
spells_above most words = list_any (is_above most) (map value words)

-- how many bytes a file has, by its content word and the words behind it
abbrev pub content_size : Option ContentWord → List (List ℕ) → ℕ
content_size (Some content.Text) words = length (join_with_byte 32 words)
content_size (Some content.Hex) (digits ∷ words) = length (unwrap_or (hex_of digits) [])
content_size (Some content.Pattern) (size ∷ words) = value size
content_size given words = 0

-- how many bytes the file of a line has
abbrev pub size_at : List (List ℕ) → ℕ
size_at words = content_size (content_at words) (content_words_at words)

-- ---- the rows of the kinds

-- Header: the first line isn't `morph 1`
abbrev pub is_header : Option LineWord → List ℕ → Bool
is_header None line = not (bytes_eq line (codes "morph 1"))
is_header (Some last) line = false

-- Unknown, where the first word is known: the third word of a file line isn't a content word
abbrev pub is_unknown : LineWord → List (List ℕ) → Bool
is_unknown word.File (name ∷ content ∷ words) = is_none (content_word_of content)
is_unknown first words = false

-- so many words stand behind a content word
abbrev pub fits_content : Option ContentWord → List (List ℕ) → Bool
fits_content (Some content.Empty) words = length words == 0
fits_content (Some content.Text) words = nat_lt 0 (length (join_with_byte 32 words))
fits_content (Some content.Hex) words = length words == 1
fits_content (Some content.Pattern) words = length words == 2
fits_content None words = false

-- the words behind a command's word are as many as it has
abbrev pub fits_verb : Verb → List (List ℕ) → Bool
fits_verb verb.Read words = is_without words
fits_verb verb.Repair words = is_without words
fits_verb verb.Convert words = is_stop words || is_without words
fits_verb verb.Sweep words = length words == 0
fits_verb verb words = length words == 1

-- so many words stand behind a line's first word, with one threshold for each stage
abbrev pub fits_word : SoFar → LineWord → List (List ℕ) → Bool
fits_word so word.Points words = nat_lt 0 (length words)
fits_word so word.Stage words = length words == 3
fits_word so word.Policy words =
    not (length (main_of so.script).stages == 0) && length words == length (main_of so.script).stages
fits_word so word.File words = fits_content (content_at words) (content_words_at words)
fits_word so word.Phase words = length words == 0
fits_word so word.Client words = length words == 0
fits_word so word.End words = length words == 0
fits_word so (word.Command verb) words = fits_verb verb words
fits_word so first words = length words == 1

-- the digits of a file's content spell no bytes
abbrev pub is_hex_wrong : Option ContentWord → List (List ℕ) → Bool
is_hex_wrong (Some content.Hex) (digits ∷ words) = is_none (hex_of digits)
is_hex_wrong given words = false

-- Number: a word in a number's place spells no number, or the digits of a file no bytes
abbrev pub is_number_wrong : LineWord → List (List ℕ) → Bool
is_number_wrong word.File words =
    is_hex_wrong (content_at words) (content_words_at words)
    || list_any (λ n. is_none (decimal_of n)) (number_words word.File words)
is_number_wrong first words = list_any (λ n. is_none (decimal_of n)) (number_words first words)

-- an earlier dump line has this file, if it is one
abbrev pub is_dumped : List ℕ → Option ℕ → Bool
is_dumped dumps None = false
is_dumped dumps (Some file) = list_any (λ other. file == other) dumps

-- Twice: a file's name stands in an earlier line, a server stands twice in a list, a file in an earlier dump line
abbrev pub is_twice : SoFar → LineWord → List (List ℕ) → Bool
is_twice so word.File (name ∷ words) = has_name (names_in so.script.files) name
is_twice so word.Dump (name ∷ words) = is_dumped so.script.dumps (file_number (names_in so.script.files) name)
is_twice so first words = has_twice (map value (server_words first words))

-- NoFile: no earlier line has the file of a command or a dump line
abbrev pub lacks_file : SoFar → LineWord → List (List ℕ) → Bool
lacks_file so first words =
    list_any (λ name. is_none (file_number (names_in so.script.files) name)) (file_words first words)

-- NoServer: a server's number isn't below the number of servers; not tried before the line of these
abbrev pub lacks_servers : SoFar → LineWord → List (List ℕ) → Bool
lacks_servers so first words = list_any (lacks_server so) (map value (server_words first words))

-- Order, wherever the line stands: thresholds that don't begin with 0 or don't grow, and a sweep without a policy
abbrev pub is_early : SoFar → LineWord → List (List ℕ) → Bool
is_early so word.Policy words = not (are_thresholds (map value words))
is_early so (word.Command verb.Sweep) words = is_none so.script.policy
is_early so first words = false

-- Order: the line may not follow the line before it, if there is one
abbrev pub is_misplaced : Option LineWord → LineWord → Bool
is_misplaced None first = false
is_misplaced (Some last) first = not (may_follow last first)

-- ---- the rows of the limits

-- number: a number but that of `tick` or `policy` is above 4,294,967,295
abbrev pub passes_number : LineWord → List (List ℕ) → Bool
passes_number word.Tick words = false
passes_number word.Policy words = false
passes_number first words = spells_above 4294967295 (number_words first words)

-- tick: a number of `tick` or `policy` is above 1,000,000,000
abbrev pub passes_tick : LineWord → List (List ℕ) → Bool
passes_tick word.Tick words = spells_above 1000000000 words
passes_tick word.Policy words = spells_above 1000000000 words
passes_tick first words = false

-- point: a point is above 255
abbrev pub passes_point : LineWord → List (List ℕ) → Bool
passes_point word.Points words = spells_above 255 words
passes_point first words = false

-- points: more than four points
abbrev pub passes_points : LineWord → List (List ℕ) → Bool
passes_points word.Points words = nat_lt 4 (length words)
passes_points first words = false

-- chunk: the chunk size is 0 or above 65,536
abbrev pub passes_chunk : LineWord → List (List ℕ) → Bool
passes_chunk word.Chunk words = list_any (λ size. size == 0 || nat_lt 65536 size) (map value words)
passes_chunk first words = false

-- name: the name of a file line isn't a name
abbrev pub passes_name : LineWord → List (List ℕ) → Bool
passes_name word.File (name ∷ words) = not (is_name name)
passes_name first words = false

-- files: this is the 65th file line
abbrev pub passes_files : SoFar → LineWord → Bool
passes_files so word.File = nat_le 64 (length so.script.files)
passes_files so first = false

-- pattern: the start of a pattern is above 250
abbrev pub passes_start : Option ContentWord → List (List ℕ) → Bool
passes_start (Some content.Pattern) (size ∷ start ∷ words) = nat_lt 250 (value start)
passes_start given words = false

abbrev pub passes_pattern : LineWord → List (List ℕ) → Bool
passes_pattern word.File words = passes_start (content_at words) (content_words_at words)
passes_pattern first words = false

-- length: the file is longer than 1,048,576 bytes
abbrev pub passes_length : LineWord → List (List ℕ) → Bool
passes_length word.File words = nat_lt 1048576 (size_at words)
passes_length first words = false

-- chunks: the file has more than 1,024 chunks; not tried before a chunk line
abbrev pub passes_chunks : SoFar → LineWord → List (List ℕ) → Bool
passes_chunks so word.File words = nat_lt 0 so.script.chunk && nat_lt 1024 (div_ceil (size_at words) so.script.chunk)
passes_chunks so first words = false

-- phases: this is the 65th phase line
abbrev pub passes_phases : SoFar → LineWord → Bool
passes_phases so word.Phase = nat_le 64 so.phases
passes_phases so first = false

-- clients: this is the 9th client line of its phase
abbrev pub passes_clients : SoFar → LineWord → Bool
passes_clients so word.Client = nat_le 8 so.clients
passes_clients so first = false

-- commands: this is the 1,025th command
abbrev pub passes_commands : SoFar → LineWord → Bool
passes_commands so (word.Command verb) = nat_le 1024 so.commands
passes_commands so first = false

-- ---- the table

-- the rows of a line with a known first word, and the words behind it
abbrev pub word_rows : SoFar → Option LineWord → LineWord → List (List ℕ) → List (Bool × Kind)
word_rows so last first words =
    (is_unknown first words, kind.Unknown)
    ∷ (not (fits_word so first words), kind.Arity)
    ∷ (is_number_wrong first words, kind.Number)
    ∷ (passes_number first words, kind.Limit limit.Number)
    ∷ (passes_tick first words, kind.Limit limit.Tick)
    ∷ (passes_point first words, kind.Limit limit.Point)
    ∷ (passes_points first words, kind.Limit limit.Points)
    ∷ (passes_chunk first words, kind.Limit limit.Chunk)
    ∷ (passes_name first words, kind.Limit limit.Name)
    ∷ (passes_files so first, kind.Limit limit.Files)
    ∷ (passes_pattern first words, kind.Limit limit.Pattern)
    ∷ (passes_length first words, kind.Limit limit.Length)
    ∷ (passes_chunks so first words, kind.Limit limit.Chunks)
    ∷ (passes_phases so first, kind.Limit limit.Phases)
    ∷ (passes_clients so first, kind.Limit limit.Clients)
    ∷ (passes_commands so first, kind.Limit limit.Commands)
    ∷ (is_twice so first words, kind.Twice)
    ∷ (lacks_file so first words, kind.NoFile)
    ∷ (lacks_servers so first words, kind.NoServer)
    ∷ (is_early so first words || is_misplaced last first, kind.Order)
    ∷ []

-- the same by the first word; Unknown is also a line whose first word no line has
abbrev pub known_rows : SoFar → Option LineWord → Option LineWord → List (List ℕ) → List (Bool × Kind)
known_rows so last None words = (true, kind.Unknown) ∷ []
known_rows so last (Some first) words = word_rows so last first words

abbrev pub words_rows : SoFar → Option LineWord → List (List ℕ) → List (Bool × Kind)
words_rows so last [] = (true, kind.Unknown) ∷ []
words_rows so last (first ∷ words) = known_rows so last (word_of first) words

-- the table of a line
abbrev pub line_rows : SoFar → Option LineWord → List ℕ → List (Bool × Kind)
line_rows so last line =
    (not (is_clean line), kind.Text) ∷ (is_header last line, kind.Header) ∷ words_rows so last (words_of line)

-- ---- the law

-- the first kind of the rows that comes
abbrev pub first_kind : List (Bool × Kind) → Option Kind
first_kind [] = None
first_kind (row ∷ rows) = if row.0 then Some row.1 else first_kind rows

-- the fault that is answered, if one is
abbrev pub fault_of : {A : Type 0} → Result A Kind → Option Kind
fault_of (Ok x) = None
fault_of (Err k) = Some k

-- A line's fault is the first in the order of the table, and a line in which none comes has a form.
abbrev pub FaultsInOrder : Type 0
FaultsInOrder = (so : SoFar) (line : List ℕ) → fault_of (form_at so line) ≡ first_kind (line_rows so so.last line)
