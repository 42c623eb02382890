-- What a line says behind those before it, or the kind of its fault. In each line the kinds are tried in their order:
-- text, header, unknown, arity, number, limit, twice, nofile, noserver, order; and limits in the order of their names.
use Rattle.std.specs.Prelude.{◌≡◌, ◌≢◌, ℕ, ◌==◌, ◌&&◌, ◌||◌, not, nat_lt, nat_le, Bool, true, false, if◌then◌else◌}
use Rattle.std.specs.Prelude.{List, [], ◌∷◌, is_some}
use Rattle.std.specs.Prelude.{length, Option, Some, None, Result, Ok, Err, codes, ok_or, position, Vec}
use Rattle.std.specs.Global.{Global}
use Rattle.std.specs.Int.{div_ceil}
use Rattle.std.specs.List.{list_any, join_with_byte}
use Rattle.std.specs.Str.{bytes_eq}
use Rattle.mf_text.specs.Lines.{is_clean}
use Rattle.mf_text.specs.Words.{words_of}
use Rattle.mf_text.specs.Hex.{hex_of}
use Rattle.mf_places.specs.declared.servers.Servers.{Servers}
use Rattle.mf_places.specs.Servers.{set_of, no_servers}
use Rattle.mf_lines.specs.declared.parts.Kind.{Kind}
use Rattle.mf_lines.specs.declared.parts.Kind.TheVariants as kind
use Rattle.mf_lines.specs.declared.parts.LimitName.{LimitName}
use Rattle.mf_lines.specs.declared.parts.LimitName.TheVariants as limit
use Rattle.mf_lines.specs.declared.parts.Content.{Content}
use Rattle.mf_lines.specs.declared.parts.Content.TheVariants as given
use Rattle.mf_lines.specs.declared.parts.Act.{Act}
use Rattle.mf_lines.specs.declared.parts.Act.TheVariants as act
use Rattle.mf_lines.specs.declared.words.Verb.{Verb}
use Rattle.mf_lines.specs.declared.words.Verb.TheVariants as verb
use Rattle.mf_lines.specs.declared.words.LineWord.{LineWord}
use Rattle.mf_lines.specs.declared.words.LineWord.TheVariants as word
use Rattle.mf_lines.specs.declared.words.ContentWord.{ContentWord}
use Rattle.mf_lines.specs.declared.words.ContentWord.TheVariants as content
use Rattle.mf_lines.specs.declared.forms.Form.{Form}
use Rattle.mf_lines.specs.declared.forms.Form.TheVariants as says
use Rattle.mf_lines.specs.Names.{is_name}
use Rattle.mf_lines.specs.Words.{◌>>=◌, refuse, word_of, content_word_of, no_words, one_word, two_words, three_words}
use Rattle.mf_lines.specs.Words.{spelled, small, number_in}
use Rattle.mf_lines.specs.Meaning.{SoFar, names_in, main_of}

-- it was read so, or memory ran out
abbrev pub Says : {A : Type 0} → Result A Kind → Result A Kind → Type 0
Says (Ok x) read = read ≡ Ok x
Says (Err k) read = k ≢ kind.Memory → read ≡ Err k

-- the same of a list of numbers
abbrev pub SaysList : Result (Vec ℕ Global) Kind → Result (List ℕ) Kind → Type 0
SaysList (Ok v) read = read ≡ Ok v.items
SaysList (Err k) read = k ≢ kind.Memory → read ≡ Err k

-- the first limit that is passed, if one is
abbrev pub within : List (Bool × LimitName) → Result (Unit {0}) Kind
within [] = Ok tt
within (l ∷ limits) = if l.0 then Err (kind.Limit l.1) else within limits

-- ---- the lines of the store

-- `servers S`
abbrev pub servers_form : List (List ℕ) → Result Form Kind
servers_form words = do
  word ← one_word words
  n ← number_in word
  Ok (says.Servers n)

-- `chunk B`
abbrev pub chunk_form : List (List ℕ) → Result Form Kind
chunk_form words = do
  word ← one_word words
  size ← number_in word
  _ ← within ((size == 0 || nat_lt 65536 size, limit.Chunk) ∷ [])
  Ok (says.Chunk size)

-- the numbers that these words spell
abbrev pub numbers_in : List (List ℕ) → Result (List ℕ) Kind
numbers_in [] = Ok []
numbers_in (word ∷ words) = do
  n ← spelled word
  more ← numbers_in words
  Ok (n ∷ more)

-- a number above this
abbrev pub is_above : ℕ → ℕ → Bool
is_above most n = nat_lt most n

-- numbers that are one to four points
abbrev pub points_in : List ℕ → Result Form Kind
points_in points = do
  _ ← within (
      (list_any (is_above 4294967295) points, limit.Number)
      ∷ (list_any (is_above 255) points, limit.Point)
      ∷ (nat_lt 4 (length points), limit.Points)
      ∷ [])
  Ok (says.Points points)

-- `points P ..`
abbrev pub points_form : List (List ℕ) → Result Form Kind
points_form [] = Err kind.Arity
points_form words = numbers_in words >>= points_in

-- `stage K R C`
abbrev pub stage_form : List (List ℕ) → Result Form Kind
stage_form words = do
  three ← three_words words
  width ← spelled three.0
  parities ← spelled three.1
  copies ← spelled three.2
  width ← small width
  parities ← small parities
  copies ← small copies
  Ok (says.Stage (record { width = width; parities = parities; copies = copies }))

-- each is above the one before it, and the first above this
abbrev pub rises_behind : ℕ → List ℕ → Bool
rises_behind last [] = true
rises_behind last (n ∷ numbers) = nat_lt last n && rises_behind n numbers

-- they begin with 0, and each is above the one before it
abbrev pub are_thresholds : List ℕ → Bool
are_thresholds [] = false
are_thresholds (n ∷ numbers) = n == 0 && rises_behind n numbers

-- `policy T ..`, with a threshold for each stage
abbrev pub policy_form : SoFar → List (List ℕ) → Result Form Kind
policy_form so words = do
  _ ← refuse (length (main_of so.script).stages == 0) kind.Arity
  _ ← refuse (not (length words == length (main_of so.script).stages)) kind.Arity
  thresholds ← numbers_in words
  _ ← within ((list_any (is_above 1000000000) thresholds, limit.Tick) ∷ [])
  _ ← refuse (not (are_thresholds thresholds)) kind.Order
  Ok (says.Policy thresholds)

-- ---- file lines

-- whether one of the names is this one
abbrev pub has_name : List (List ℕ) → List ℕ → Bool
has_name names name = list_any (bytes_eq name) names

-- the number of the file of this name
abbrev pub file_number : List (List ℕ) → List ℕ → Option ℕ
file_number names name = position (bytes_eq name) names

-- the rest of the line: at least one byte
abbrev pub text_in : List (List ℕ) → Result Content Kind
text_in [] = Err kind.Arity
text_in ([] ∷ []) = Err kind.Arity
text_in words = Ok (given.Text (join_with_byte 32 words))

-- a word of hexadecimal digits
abbrev pub hex_in : List (List ℕ) → Result Content Kind
hex_in words = do
  word ← one_word words
  bytes ← ok_or (hex_of word) kind.Number
  Ok (given.Hex bytes)

-- a length and a start
abbrev pub pattern_in : List (List ℕ) → Result Content Kind
pattern_in words = do
  two ← two_words words
  n ← spelled two.0
  start ← spelled two.1
  n ← small n
  start ← small start
  Ok (given.Pattern n start)

-- how a file's bytes are given, by what stands behind the content word
abbrev pub content_in : ContentWord → List (List ℕ) → Result Content Kind
content_in content.Empty words = no_words words >>= λ _. Ok given.Empty
content_in content.Text words = text_in words
content_in content.Hex words = hex_in words
content_in content.Pattern words = pattern_in words

-- the number of a file's bytes
abbrev pub content_length : Content → ℕ
content_length given.Empty = 0
content_length (given.Text bytes) = length bytes
content_length (given.Hex bytes) = length bytes
content_length (given.Pattern n start) = n

-- a pattern that starts above 250
abbrev pub starts_high : Content → Bool
starts_high (given.Pattern n start) = nat_lt 250 start
starts_high given = false

-- the limits of a file
abbrev pub file_limits : SoFar → List ℕ → Content → List (Bool × LimitName)
file_limits so name given =
    (not (is_name name), limit.Name)
    ∷ (nat_le 64 (length so.script.files), limit.Files)
    ∷ (starts_high given, limit.Pattern)
    ∷ (nat_lt 1048576 (content_length given), limit.Length)
    ∷ (nat_lt 0 so.script.chunk && nat_lt 1024 (div_ceil (content_length given) so.script.chunk), limit.Chunks)
    ∷ []

-- `file NAME empty`, `file NAME text REST`, `file NAME hex H`, `file NAME pattern N S`
abbrev pub file_form : SoFar → List (List ℕ) → Result Form Kind
file_form so (name ∷ word ∷ words) = do
  word ← ok_or (content_word_of word) kind.Unknown
  given ← content_in word words
  _ ← within (file_limits so name given)
  _ ← refuse (has_name (names_in so.script.files) name) kind.Twice
  Ok (says.File (record { name = name; content = given }))
file_form so words = Err kind.Arity

-- ---- ticks, phases, clients and commands

-- `tick N`
abbrev pub tick_form : List (List ℕ) → Result Form Kind
tick_form words = do
  word ← one_word words
  ticks ← spelled word
  _ ← within ((nat_lt 1000000000 ticks, limit.Tick) ∷ [])
  Ok (says.Tick ticks)

-- `phase`
abbrev pub phase_form : SoFar → List (List ℕ) → Result Form Kind
phase_form so words = do
  _ ← no_words words
  _ ← within ((nat_le 64 so.phases, limit.Phases) ∷ [])
  Ok says.Phase

-- `client`
abbrev pub client_form : SoFar → List (List ℕ) → Result Form Kind
client_form so words = do
  _ ← no_words words
  _ ← within ((nat_le 8 so.clients, limit.Clients) ∷ [])
  Ok says.Client

-- one command more passes no limit
abbrev pub command_fits : SoFar → Result (Unit {0}) Kind
command_fits so = within ((nat_le 1024 so.commands, limit.Commands) ∷ [])

-- a command's operand: a file
abbrev pub file_operand : SoFar → List (List ℕ) → Result ℕ Kind
file_operand so words = do
  name ← one_word words
  _ ← command_fits so
  ok_or (file_number (names_in so.script.files) name) kind.NoFile

-- whether the line that says how many servers there are stands before, where the last line begins with this word
abbrev pub knows_servers : Option LineWord → Bool
knows_servers None = false
knows_servers (Some word.Morph) = false
knows_servers (Some last) = true

-- the script has no server of this number; before it says how many there are, none is missed
abbrev pub lacks_server : SoFar → ℕ → Bool
lacks_server so server = knows_servers so.last && nat_le so.script.servers server

-- a command's operand: a server
abbrev pub server_operand : SoFar → List (List ℕ) → Result ℕ Kind
server_operand so words = do
  word ← one_word words
  server ← number_in word
  _ ← command_fits so
  _ ← refuse (lacks_server so server) kind.NoServer
  Ok server

-- a number of the list stands twice in it
abbrev pub has_twice : List ℕ → Bool
has_twice [] = false
has_twice (n ∷ numbers) = list_any (λ other. n == other) numbers || has_twice numbers

-- a file's name, and the words of one server or more behind `without`, if that stands there
abbrev pub away_words : List (List ℕ) → Result (List ℕ × List (List ℕ)) Kind
away_words (name ∷ []) = Ok (name, [])
away_words (name ∷ word ∷ server ∷ servers) =
    refuse (not (bytes_eq word (codes "without"))) kind.Arity >>= λ _. Ok (name, server ∷ servers)
away_words words = Err kind.Arity

-- the different servers that these words spell
abbrev pub servers_in : SoFar → List (List ℕ) → Result (List ℕ) Kind
servers_in so words = do
  servers ← numbers_in words
  _ ← within (
      (list_any (is_above 4294967295) servers, limit.Number)
      ∷ (nat_le 1024 so.commands, limit.Commands)
      ∷ [])
  _ ← refuse (has_twice servers) kind.Twice
  Ok servers

-- a command's operands: a file, and the servers that it can't reach
abbrev pub away_operands : SoFar → List (List ℕ) → Result (ℕ × Servers) Kind
away_operands so words = do
  named ← away_words words
  servers ← servers_in so named.1
  file ← ok_or (file_number (names_in so.script.files) named.0) kind.NoFile
  _ ← refuse (list_any (lacks_server so) servers) kind.NoServer
  Ok (file, set_of servers)

-- a file's name, and the number behind `stop`, where the words are these
abbrev pub stop_words : List (List ℕ) → Option (List ℕ × List ℕ)
stop_words (name ∷ word ∷ number ∷ []) = if bytes_eq word (codes "stop") then Some (name, number) else None
stop_words words = None

-- a command's operands: a file, and after how many operations on chunks it stops
abbrev pub stop_operands : SoFar → List ℕ × List ℕ → Result (ℕ × ℕ) Kind
stop_operands so two = do
  stop ← number_in two.1
  _ ← command_fits so
  file ← ok_or (file_number (names_in so.script.files) two.0) kind.NoFile
  Ok (file, stop)

-- a conversion: one that stops, or one that can't reach these servers
abbrev pub convert_in : SoFar → Option (List ℕ × List ℕ) → List (List ℕ) → Result Act Kind
convert_in so (Some two) words = stop_operands so two >>= λ r. Ok (act.Convert r.0 no_servers (Some r.1))
convert_in so None words = away_operands so words >>= λ two. Ok (act.Convert two.0 two.1 None)

-- a command without an operand, which needs a policy
abbrev pub sweep_operand : SoFar → List (List ℕ) → Result (Unit {0}) Kind
sweep_operand so words = do
  _ ← no_words words
  _ ← command_fits so
  refuse (not (is_some so.script.policy)) kind.Order

-- what a command does: its word, and its operands
abbrev pub act_in : SoFar → Verb → List (List ℕ) → Result Act Kind
act_in so verb.Create words = file_operand so words >>= λ file. Ok (act.Create file)
act_in so verb.Read words = away_operands so words >>= λ two. Ok (act.Read two.0 two.1)
act_in so verb.Hold words = file_operand so words >>= λ file. Ok (act.Hold file)
act_in so verb.Release words = file_operand so words >>= λ file. Ok (act.Release file)
act_in so verb.Repair words = away_operands so words >>= λ two. Ok (act.Repair two.0 two.1)
act_in so verb.Convert words = convert_in so (stop_words words) words
act_in so verb.Reclaim words = file_operand so words >>= λ file. Ok (act.Reclaim file)
act_in so verb.Remove words = file_operand so words >>= λ file. Ok (act.Remove file)
act_in so verb.Lose words = server_operand so words >>= λ server. Ok (act.Lose server)
act_in so verb.Sweep words = sweep_operand so words >>= λ _. Ok act.Sweep

-- ---- dumps

-- `dump NAME`
abbrev pub dump_form : SoFar → List (List ℕ) → Result Form Kind
dump_form so words = do
  name ← one_word words
  file ← ok_or (file_number (names_in so.script.files) name) kind.NoFile
  _ ← refuse (list_any (λ other. file == other) so.script.dumps) kind.Twice
  Ok (says.Dump file)

-- ---- any line

-- what a line says, by its first word and the words behind it
abbrev pub form_in : SoFar → LineWord → List (List ℕ) → Result Form Kind
form_in so word.Morph words = one_word words >>= λ _. Ok says.Morph
form_in so word.Servers words = servers_form words
form_in so word.Chunk words = chunk_form words
form_in so word.Points words = points_form words
form_in so word.Stage words = stage_form words
form_in so word.Policy words = policy_form so words
form_in so word.File words = file_form so words
form_in so word.Tick words = tick_form words
form_in so word.Phase words = phase_form so words
form_in so word.Client words = client_form so words
form_in so (word.Command verb) words = act_in so verb words >>= λ act. Ok (says.Command act)
form_in so word.Dump words = dump_form so words
form_in so word.End words = no_words words >>= λ _. Ok says.End

-- what may come behind a client line, and behind a command
abbrev pub may_follow_command : LineWord → Bool
may_follow_command (word.Command verb) = true
may_follow_command word.Client = true
may_follow_command word.Phase = true
may_follow_command word.Tick = true
may_follow_command word.Dump = true
may_follow_command word.End = true
may_follow_command next = false

-- whether a line that begins with next may follow a line that begins with last
unfoldable pub may_follow : LineWord → LineWord → Bool
may_follow word.Morph word.Servers = true
may_follow word.Servers word.Chunk = true
may_follow word.Chunk word.Points = true
may_follow word.Points word.Stage = true
may_follow word.Stage word.Stage = true
may_follow word.Stage word.Policy = true
may_follow word.Stage word.File = true
may_follow word.Policy word.File = true
may_follow word.File word.File = true
may_follow word.File word.Tick = true
may_follow word.File word.Phase = true
may_follow word.File word.Dump = true
may_follow word.File word.End = true
may_follow word.Tick word.Tick = true
may_follow word.Tick word.Phase = true
may_follow word.Tick word.Dump = true
may_follow word.Tick word.End = true
may_follow word.Phase word.Client = true
may_follow word.Client next = may_follow_command next
may_follow (word.Command verb) next = may_follow_command next
may_follow word.Dump word.Dump = true
may_follow word.Dump word.End = true
may_follow last next = false

-- what the first line says
abbrev pub first_form : List ℕ → Result Form Kind
first_form line = if bytes_eq line (codes "morph 1") then Ok says.Morph else Err kind.Header

-- what a later line says, whose words these are
abbrev pub later_form : SoFar → LineWord → List (List ℕ) → Result Form Kind
later_form so last [] = Err kind.Unknown
later_form so last (first ∷ words) = do
  word ← ok_or (word_of first) kind.Unknown
  form ← form_in so word words
  _ ← refuse (not (may_follow last word)) kind.Order
  Ok form

-- the first line, or a later one
abbrev pub placed : Option LineWord → SoFar → List ℕ → Result Form Kind
placed None so line = first_form line
placed (Some last) so line = later_form so last (words_of line)

-- what a line says behind the lines so far, or the kind of its fault
unfoldable pub form_at : SoFar → List ℕ → Result Form Kind
form_at so line = if is_clean line then placed so.last so line else Err kind.Text
