-- The text of a script.
use Rattle.std.specs.Prelude.{ℕ, List, [], ◌∷◌, ◌++◌, map, Option, Some, None}
use Rattle.std.specs.List.{flat_map, join_with_byte}
use Rattle.mf_lines.specs.declared.parts.Command.{Command}
use Rattle.mf_lines.specs.declared.parts.Client.{Client}
use Rattle.mf_lines.specs.declared.parts.Item.{Item}
use Rattle.mf_lines.specs.declared.parts.Item.TheVariants as item
use Rattle.mf_lines.specs.declared.forms.Form.{Form}
use Rattle.mf_lines.specs.declared.forms.Form.TheVariants as says
use Rattle.mf_lines.specs.Meaning.{Block, Script, names_in}
use Rattle.mf_lines.specs.LineTexts.{line_text, Alike}

-- ---- the forms of a script's lines

-- of a command
abbrev pub command_form : Command → Form
command_form command = says.Command command.act

-- of a client
abbrev pub client_forms : Client → List Form
client_forms client = says.Client ∷ map command_form client.commands

-- of ticks or a phase
abbrev pub item_forms : Item → List Form
item_forms (item.Tick ticks) = says.Tick ticks ∷ []
item_forms (item.Phase clients) = says.Phase ∷ flat_map client_forms clients

-- of a family
abbrev pub block_forms : Block → List Form
block_forms block = says.Points block.points ∷ map says.Stage block.stages

-- of a policy's thresholds, if there are any
abbrev pub policy_forms : Option (List ℕ) → List Form
policy_forms None = []
policy_forms (Some thresholds) = says.Policy thresholds ∷ []

-- of the store
abbrev pub store_forms : Script → List Form
store_forms s =
    says.Morph ∷ says.Servers s.servers ∷ says.Chunk s.chunk
    ∷ (flat_map block_forms s.families ++ policy_forms s.policy)

-- of the whole script
unfoldable pub script_forms : Script → List Form
script_forms s =
    store_forms s ++ map says.File s.files ++ flat_map item_forms s.items ++ map says.Dump s.dumps ++ says.End ∷ []

-- ---- their text

-- the lines of a script, with an LF between each two
unfoldable pub script_text : Script → List ℕ
script_text s = join_with_byte 10 (map (line_text (names_in s.files)) (script_forms s))

-- an LF, and a line
abbrev pub next_line : List (List ℕ) → Form → List ℕ
next_line names form = 10 ∷ line_text names form

-- lines of these forms, each behind an LF
unfoldable pub lines_text : List (List ℕ) → List Form → List ℕ
lines_text names forms = flat_map (next_line names) forms

-- ---- texts of one script

-- the lines are the same, one by one, but for the order of servers behind `without`
abbrev pub AreAlike : List (List ℕ) → List (List ℕ) → Type 0
AreAlike [] [] = Unit {0}
AreAlike (line ∷ lines) (other ∷ others) = Alike line other × AreAlike lines others
AreAlike lines others = ⊥
