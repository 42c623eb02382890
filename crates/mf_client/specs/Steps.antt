-- What the parts of a run do.
use Rattle.std.specs.Prelude.{◌≡◌, ℕ, ◌<◌, ◌≤◌, true, List, [], ◌∷◌, ◌++◌, length, map, take, All, Some, Vec}
use Rattle.std.specs.Prelude.{slice_index_or}
use Rattle.std.specs.Global.{Global}
use Rattle.mf_machine.specs.File.{listed}
use Rattle.mf_places.specs.declared.Name.{Name}
use Rattle.mf_lines.specs.declared.parts.Act.{Act}
use Rattle.mf_lines.specs.declared.parts.Act.TheVariants as act
use Rattle.mf_lines.specs.declared.parts.Command.{Command}
use Rattle.mf_lines.specs.Meaning.{Script, file_in}
use Rattle.mf_script.specs.Families.{file_code}
use Rattle.mf_vault.specs.Facts.{Facts, lines}
use Rattle.mf_vault.specs.Actor.{Actor}
use Rattle.mf_vault.specs.Conditions.{IsIdle, IsOfFamily}
use Rattle.mf_vault.specs.May.{MayLose}
use Rattle.mf_convert.specs.declared.change.Change.{Change}
use Rattle.mf_client.specs.declared.done.Outcome.{Outcome}
use Rattle.mf_client.specs.declared.done.Part.{Part}
use Rattle.mf_client.specs.declared.done.Done.{Done}
use Rattle.mf_client.specs.Clients.{AreFiles, facts_in, commands_of}
use Rattle.mf_client.specs.Runs.{RunsFrom, IsSmall}
use Rattle.mf_client.specs.Sweeps.{Visit, ConvertsInTurn, Visits, VisitsInTurn, is_converted, parts_of, parts_in}
use Rattle.mf_client.specs.Sweeps.{dues_of}

-- the line is a lose line of the server, up to the end of the phase
abbrev pub IsLine : (line server : ℕ) → Facts → Type 0
IsLine line server f = 0 < listed line server (lines f.losses)

-- a command finds the files of its phase: its file is one of the script's, or its line is a lose line of its server
pub record Finds (s : Script) (command : Command) (actors : List Actor) : Type 0 where
  pub phase : ℕ
  pub files : AreFiles s phase (facts_in actors)
  pub idle : All IsIdle actors
  pub few : length actors ≤ 128
  pub file : (n : ℕ) → file_in command.act ≡ Some n → n < length s.files
  pub lines : (server : ℕ) → command.act ≡ act.Lose server → All (IsLine command.line server) (facts_in actors)

-- ---- names that are lost

-- the names of each vector
abbrev pub rows : List (Vec Name Global) → List (List Name)
rows vectors = map (λ v. v.items) vectors

-- each name may be lost by the command of this line
abbrev pub AreLosable : (line : ℕ) → List Name → Actor → Type 0
AreLosable line names a = All (λ x. MayLose x line a) names × (length names ≤ 300000)

-- so the names of each list, in its file
abbrev pub AllLosable : (line : ℕ) → List (List Name) → List Actor → Type 0
AllLosable line [] [] = Unit {0}
AllLosable line (names ∷ lists) (a ∷ actors) = AreLosable line names a × AllLosable line lists actors
AllLosable line lists actors = ⊥

-- each ledger has room for its list of names
abbrev pub HaveRoom : List (List Name) → (spare : List ℕ) → Type 0
HaveRoom [] [] = Unit {0}
HaveRoom (names ∷ lists) (n ∷ spare) = (length names ≤ n) × HaveRoom lists spare
HaveRoom lists spare = ⊥

-- ---- a client on its way

-- the first i commands of the client led from the actors at its start to those now
pub record IsRunning (s : Script) (phase client i : ℕ) (start : List Actor) (done : List Done) (now : List Actor)
    : Type 0 where
  pub runs : RunsFrom s phase client 1 (take i (commands_of s phase client)) start done now
  pub count : length done ≡ i
  pub small : All (λ (d : Done). IsSmall d.io) done
  pub idle : All IsIdle now
  pub facts : facts_in now ≡ facts_in start

-- ---- a sweep on its way

-- each of these changes published a generation
abbrev pub AreConverted : List Change → Type 0
AreConverted [] = Unit {0}
AreConverted (c ∷ cs) = (is_converted c ≡ true) × AreConverted cs

-- the first i conversions of a file that is due for this stage published a generation each. They led from one actor to
-- the other, and were told behind the parts before
pub record Converting (file due i : ℕ) (a b : Actor) (before after : List Part) : Type 0 where
  pub changes : List Change
  pub turn : ConvertsInTurn due changes a b
  pub converted : AreConverted changes
  pub count : length changes ≡ i
  pub told : after ≡ before ++ parts_of file changes

-- a visit to a file that is due for this stage led from one actor to the other, and was told behind the parts before
pub record Visited (file due : ℕ) (a b : Actor) (before after : List Part) : Type 0 where
  pub changes : List Change
  pub visits : Visits (record { file = file; due = due; changes = changes }) a b
  pub told : after ≡ before ++ parts_of file changes

-- the script's files, one an actor, each of its family
pub record AreOfFamilies (s : Script) (actors : List Actor) : Type 0 where
  pub count : length actors ≡ length s.files
  pub each : (n : ℕ) (d : Actor) → n < length actors
      → IsOfFamily (file_code s n).shape (file_code s n).points (slice_index_or actors n d).facts.book

-- a file of the script, and a stage of its family, of which there are at most four
pub record IsDueOf (s : Script) (due : ℕ × ℕ) : Type 0 where
  pub file : due.0 < length s.files
  pub stage : due.1 < length (file_code s due.0).shape.stages
  pub few : due.1 < 4

-- so are these
abbrev pub AreDue : Script → List (ℕ × ℕ) → Type 0
AreDue s dues = All (IsDueOf s) dues

-- these files were visited in turn, which led from these actors to those, and was told behind the parts before
pub record VisitedAll (dues : List (ℕ × ℕ)) (before after : List Actor) (first last : List Part) : Type 0 where
  pub visits : List Visit
  pub due : dues_of visits ≡ dues
  pub turn : VisitsInTurn visits before after
  pub told : last ≡ first ++ parts_in visits
