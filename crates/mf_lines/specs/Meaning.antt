-- What lines say, and what the lines so far add up to.
use Rattle.std.specs.Prelude.{ℕ, ◌+◌, ◌==◌, if◌then◌else◌, List, [], ◌∷◌, ◌++◌, map, Option, Some, None, codes, length}
use Rattle.std.specs.Prelude.{slice_index_or}
use Rattle.mf_shape.specs.declared.Stage.{Stage}
use Rattle.mf_lines.specs.declared.parts.FileLine.{FileLine}
use Rattle.mf_lines.specs.declared.parts.Act.{Act}
use Rattle.mf_lines.specs.declared.parts.Act.TheVariants as act
use Rattle.mf_lines.specs.declared.parts.Command.{Command}
use Rattle.mf_lines.specs.declared.parts.Client.{Client}
use Rattle.mf_lines.specs.declared.parts.Item.{Item}
use Rattle.mf_lines.specs.declared.parts.Item.TheVariants as item
use Rattle.mf_lines.specs.declared.words.Verb.{Verb}
use Rattle.mf_lines.specs.declared.words.Verb.TheVariants as verb
use Rattle.mf_lines.specs.declared.words.LineWord.{LineWord}
use Rattle.mf_lines.specs.declared.words.LineWord.TheVariants as word
use Rattle.mf_lines.specs.declared.forms.Form.{Form}
use Rattle.mf_lines.specs.declared.forms.Form.TheVariants as says

-- ---- commands

-- the word of a command
abbrev pub verb_of : Act → Verb
verb_of (act.Create file) = verb.Create
verb_of (act.Read file away) = verb.Read
verb_of (act.Hold file) = verb.Hold
verb_of (act.Release file) = verb.Release
verb_of (act.Repair file away) = verb.Repair
verb_of (act.Convert file away stop) = verb.Convert
verb_of (act.Reclaim file) = verb.Reclaim
verb_of (act.Remove file) = verb.Remove
verb_of (act.Lose server) = verb.Lose
verb_of act.Sweep = verb.Sweep

-- the file that it is on, if it is on one
abbrev pub file_in : Act → Option ℕ
file_in (act.Create file) = Some file
file_in (act.Read file away) = Some file
file_in (act.Hold file) = Some file
file_in (act.Release file) = Some file
file_in (act.Repair file away) = Some file
file_in (act.Convert file away stop) = Some file
file_in (act.Reclaim file) = Some file
file_in (act.Remove file) = Some file
file_in (act.Lose server) = None
file_in act.Sweep = None

-- the word that a line of this form begins with
abbrev pub first_word : Form → LineWord
first_word says.Morph = word.Morph
first_word (says.Servers n) = word.Servers
first_word (says.Chunk n) = word.Chunk
first_word (says.Points points) = word.Points
first_word (says.Stage stage) = word.Stage
first_word (says.Policy thresholds) = word.Policy
first_word (says.File file) = word.File
first_word (says.Tick ticks) = word.Tick
first_word says.Phase = word.Phase
first_word says.Client = word.Client
first_word (says.Command act) = word.Command (verb_of act)
first_word (says.Dump file) = word.Dump
first_word says.End = word.End

-- ---- the script

-- what is said of a family: its name, its points and its stages
pub record Block : Type 0 where
  pub name : List ℕ
  pub points : List ℕ
  pub stages : List Stage

-- What a script says: its servers and chunk size, its families, the thresholds of its policy, its files, for each file
-- the number of its family, what stands behind the files, and the files of its dump lines.
pub record Script : Type 0 where
  pub servers : ℕ
  pub chunk : ℕ
  pub families : List Block
  pub policy : Option (List ℕ)
  pub files : List FileLine
  pub file_families : List ℕ
  pub items : List Item
  pub dumps : List ℕ

-- the one family, of which nothing is said yet
abbrev pub no_block : Block
no_block = record { name = codes "main"; points = []; stages = [] }

-- before the first line
abbrev pub no_script : Script
no_script =
    record {
      servers = 0;
      chunk = 0;
      families = no_block ∷ [];
      policy = None;
      files = [];
      file_families = [];
      items = [];
      dumps = [];
    }

-- the list with its last element changed
abbrev pub on_last : {X : Type 0} → (X → X) → List X → List X
on_last change [] = []
on_last change (x ∷ []) = change x ∷ []
on_last change (x ∷ y ∷ xs) = x ∷ on_last change (y ∷ xs)

-- a family with these points
abbrev pub with_points : List ℕ → Block → Block
with_points points block = record block { points = points }

-- a family with one stage more
abbrev pub with_stage : Stage → Block → Block
with_stage stage block = record block { stages = block.stages ++ stage ∷ [] }

-- a phase with one client more; ticks have no clients
abbrev pub with_client : Item → Item
with_client (item.Tick ticks) = item.Tick ticks
with_client (item.Phase clients) = item.Phase (clients ++ record { commands = [] } ∷ [])

-- a client with one command more
abbrev pub client_with : Command → Client → Client
client_with command client = record { commands = client.commands ++ command ∷ [] }

-- a phase whose last client has one command more
abbrev pub with_command : Command → Item → Item
with_command command (item.Tick ticks) = item.Tick ticks
with_command command (item.Phase clients) = item.Phase (on_last (client_with command) clients)

-- with line n, which is of this form
abbrev pub with_form : Script → ℕ → Form → Script
with_form s n (says.Servers count) = record s { servers = count }
with_form s n (says.Chunk size) = record s { chunk = size }
with_form s n (says.Points points) = record s { families = on_last (with_points points) s.families }
with_form s n (says.Stage stage) = record s { families = on_last (with_stage stage) s.families }
with_form s n (says.Policy thresholds) = record s { policy = Some thresholds }
with_form s n (says.File file) = record s { files = s.files ++ file ∷ []; file_families = s.file_families ++ 0 ∷ [] }
with_form s n (says.Tick ticks) = record s { items = s.items ++ item.Tick ticks ∷ [] }
with_form s n says.Phase = record s { items = s.items ++ item.Phase [] ∷ [] }
with_form s n says.Client = record s { items = on_last with_client s.items }
with_form s n (says.Command act) = record s { items = on_last (with_command (record { line = n; act = act })) s.items }
with_form s n (says.Dump file) = record s { dumps = s.dumps ++ file ∷ [] }
with_form s n form = s

-- what is said of the first family, which is the only one
abbrev pub main_of : Script → Block
main_of s = slice_index_or s.families 0 no_block

-- the names of these files
abbrev pub names_in : List FileLine → List (List ℕ)
names_in files = map (λ file. file.name) files

-- ---- ticks and phases

-- the clients of a phase; ticks have none
abbrev pub clients_in : Item → List Client
clients_in (item.Tick ticks) = []
clients_in (item.Phase clients) = clients

-- the phases among these items, each with its clients
abbrev pub phases_in : List Item → List (List Client)
phases_in [] = []
phases_in (item.Tick ticks ∷ items) = phases_in items
phases_in (item.Phase clients ∷ items) = clients ∷ phases_in items

-- ---- the lines so far

-- What the lines so far add up to: how many they are, the word of the last one, the number of the first stage's line or
-- 0, how many phases and commands they have, how many clients since the last phase line, and what they say.
pub record SoFar : Type 0 where
  pub lines : ℕ
  pub last : Option LineWord
  pub stage_line : ℕ
  pub phases : ℕ
  pub clients : ℕ
  pub commands : ℕ
  pub script : Script

-- before the first line
abbrev pub so_before : SoFar
so_before =
    record { lines = 0; last = None; stage_line = 0; phases = 0; clients = 0; commands = 0; script = no_script }

-- the line of the first stage, with one more line
abbrev pub stage_line_with : SoFar → Form → ℕ
stage_line_with so (says.Stage stage) =
    if length (main_of so.script).stages == 0 then so.lines + 1 else so.stage_line
stage_line_with so form = so.stage_line

-- the number of phases, with one more line
abbrev pub phases_with : SoFar → Form → ℕ
phases_with so says.Phase = so.phases + 1
phases_with so form = so.phases

-- the number of clients since the last phase line, with one more line
abbrev pub clients_with : SoFar → Form → ℕ
clients_with so says.Phase = 0
clients_with so says.Client = so.clients + 1
clients_with so form = so.clients

-- the number of commands, with one more line
abbrev pub commands_with : SoFar → Form → ℕ
commands_with so (says.Command act) = so.commands + 1
commands_with so form = so.commands

-- with one more line, of this form
abbrev pub with_line : SoFar → Form → SoFar
with_line so form =
    record {
      lines = so.lines + 1;
      last = Some (first_word form);
      stage_line = stage_line_with so form;
      phases = phases_with so form;
      clients = clients_with so form;
      commands = commands_with so form;
      script = with_form so.script (so.lines + 1) form;
    }

-- with these lines
abbrev pub so_with : SoFar → List Form → SoFar
so_with so [] = so
so_with so (form ∷ forms) = so_with (with_line so form) forms

-- what lines of these forms add up to
unfoldable pub so_of : List Form → SoFar
so_of forms = so_with so_before forms
