-- What every script keeps, also one that is no text's.
use Rattle.std.specs.Prelude.{◌≡◌, ◌≢◌, ◌<◌, ◌≤◌, ◌^◌, ℕ, ◌+◌, List, [], ◌∷◌, map, length, Option, IfSome}
use Rattle.std.specs.List.{All, AllPairs}
use Rattle.mf_check.specs.Families.{IsCode}
use Rattle.mf_lines.specs.declared.parts.FileLine.{FileLine}
use Rattle.mf_lines.specs.declared.parts.Command.{Command}
use Rattle.mf_lines.specs.declared.parts.Client.{Client}
use Rattle.mf_lines.specs.declared.parts.Item.{Item}
use Rattle.mf_lines.specs.declared.parts.Item.TheVariants as item
use Rattle.mf_lines.specs.Meaning.{Block, Script, main_of, names_in, phases_in, file_in}
use Rattle.mf_lines.specs.Keeps.{FileFits, IsPolicied}
use Rattle.mf_script.specs.declared.script.NamedFamily.{NamedFamily}
use Rattle.mf_script.specs.Scripts.{code_of, IsScript}
use Rattle.mf_script.specs.Limits.{in_items}

-- the ticks of an item, and of all items
abbrev pub ticks_of : Item → ℕ
ticks_of (item.Tick ticks) = ticks
ticks_of (item.Phase clients) = 0

abbrev pub ticks_in : List Item → ℕ
ticks_in [] = 0
ticks_in (x ∷ items) = ticks_of x + ticks_in items

-- each command of these clients has P, and each command of these items
abbrev pub OfClients : (Command → Type 0) → List Client → Type 0
OfClients P [] = Unit {0}
OfClients P (client ∷ clients) = All P client.commands × OfClients P clients

abbrev pub OfItems : (Command → Type 0) → List Item → Type 0
OfItems P [] = Unit {0}
OfItems P (item.Tick ticks ∷ items) = OfItems P items
OfItems P (item.Phase clients ∷ items) = OfClients P clients × OfItems P items

-- a command's file is one of so many, and a sweep has a policy
abbrev pub IsKnown : ℕ → Option (List ℕ) → Command → Type 0
IsKnown files policy command = IfSome (file_in command.act) (λ file. file < files) × IsPolicied policy command.act

-- there is one family, to which each file belongs
pub record HasOne (s : Script) : Type 0 where
  pub block : Block
  pub families : s.families ≡ block ∷ []
  pub file_families : s.file_families ≡ map (λ (file : FileLine). 0) s.files

-- A script has one family, which is accepted; a chunk size from 1 to 65,536; at most 64 files, whose names differ and
-- each of which fits the chunk size; a threshold for each stage, where it has a policy; at most 1,024 phases, of one to
-- eight clients each; and at most 1,024 commands, on files of its own, of which a sweep has a policy. Its ticks fit in
-- 64 bits.
pub record IsSound (s : Script) : Type 0 where
  pub one : HasOne s
  pub families : All (λ block. IsCode (code_of s block)) s.families
  pub chunk : (1 ≤ s.chunk) × (s.chunk ≤ 65536)
  pub files : length s.files ≤ 64
  pub names : AllPairs (λ name other. name ≢ other) (names_in s.files)
  pub each : All (λ (file : FileLine). FileFits s.chunk file.content) s.files
  pub policy : IfSome s.policy (λ thresholds. length thresholds ≡ length (main_of s).stages)
  pub phases : length (phases_in s.items) ≤ 1024
  pub clients : All (λ (clients : List Client). (1 ≤ length clients) × (length clients ≤ 8)) (phases_in s.items)
  pub commands : in_items s.items ≤ 1024
  pub known : OfItems (IsKnown (length s.files) s.policy) s.items
  pub ticks : ticks_in s.items < 2 ^ 64

-- what each value of the type `Script` keeps: it is sound, and its families are over its servers
pub record IsKept (families : List NamedFamily) (s : Script) : Type 0 where
  pub sound : IsSound s
  pub over : All (λ (named : NamedFamily). named.family.shape.servers ≡ s.servers) families

-- each script of a text is sound
abbrev pub ScriptsAreSound : Type 0
ScriptsAreSound = (text : List ℕ) (s : Script) → IsScript text s → IsSound s
