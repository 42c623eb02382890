-- The facts of a file that no step changes, its resting state, and its state between two steps.
use Rattle.std.specs.Prelude.{◌≡◌, ℕ, ◌+◌, ◌<◌, ◌==◌, Bool, true, List, [], ◌∷◌, cond}
use Rattle.mf_machine.specs.declared.view.View.{View}
use Rattle.mf_machine.specs.Counts.{bit}
use Rattle.mf_machine.specs.Words.{nth_name_word, removed_of}

-- a lose line of the script, with its server
pub record Line : Type 0 where
  pub line : ℕ
  pub server : ℕ

-- a file: its stages, the number of its names, which generation holds which name, each name's server and its cell, and
-- the lose lines up to the end of the phase
pub record File : Type 0 where
  pub stages : ℕ
  pub names : ℕ
  pub holds : ℕ → ℕ → Bool
  pub server : ℕ → ℕ
  pub cell : ℕ → List ℕ
  pub losses : List Line

-- the word of a name, and the number of the file once it is removed
abbrev pub name_word : File → ℕ → ℕ
name_word f n = nth_name_word f.stages n

-- the number of the file once it is removed
abbrev pub removed : File → ℕ
removed f = removed_of f.stages

-- generation g holds the name
abbrev pub Holds : File → ℕ → ℕ → Type 0
Holds f g n = f.holds g n ≡ true

-- how often the lines have this line with this server
abbrev pub listed : ℕ → ℕ → List Line → ℕ
listed l s [] = 0
listed l s (x ∷ xs) = cond (x.line == l) (bit x.server s) 0 + listed l s xs

-- there is a lose line of the name's server with this number
abbrev pub IsLoseLine : File → ℕ → ℕ → Type 0
IsLoseLine f n l = 0 < listed l (f.server n) f.losses

-- what stands in the slot of a name: it is out with an actor, it is empty, or it has these bytes
pub data Home : Type 0 where
  away : Home
  empty : Home
  keeps : List ℕ → Home

-- the premise of *Cells*: nothing changes a kept chunk behind its keeper's back. For now it always holds
unfoldable pub Unharmed : File → Type 0
Unharmed f = Unit {0}

-- *Cells*: the slot of a name that is Here has its cell
unfoldable pub HasCell : File → ℕ → Home → Type 0
HasCell f n h = Unharmed f → h ≡ keeps (f.cell n)

-- a file at rest: the published number, the closed generations, the word of each name, and its slot
pub record Opening : Type 0 where
  pub number : ℕ
  pub closed : ℕ → Bool
  pub name : ℕ → ℕ
  pub home : ℕ → Home

-- a file between two steps: the published number, the right, the word of each generation's pins and of each name, the
-- slots, and the actors
pub record State : Type 0 where
  pub number : ℕ
  pub right : ℕ
  pub pins : ℕ → ℕ
  pub name : ℕ → ℕ
  pub home : ℕ → Home
  pub views : List View
