-- What one command does.
use Rattle.std.specs.Prelude.{◌≡◌, ℕ, ◌+◌, ◌-◌, Bool, List, [], ◌∷◌, length, map, filter}
use Rattle.std.specs.Prelude.{Option, Some, None}
use Rattle.std.specs.declared.vec.Vec.{Vec}
use Rattle.std.specs.declared.alloc.Global.{Global}
use Rattle.sha2.specs.Sha256.{sha256}
use Rattle.mf_machine.specs.declared.answer.Slot.TheVariants.{Hold}
use Rattle.mf_places.specs.declared.Name.{Name}
use Rattle.mf_places.specs.declared.servers.Servers.{Servers}
use Rattle.mf_places.specs.Names.{all_names}
use Rattle.mf_places.specs.Placement.{is_on}
use Rattle.mf_places.specs.Servers.{no_servers}
use Rattle.mf_lines.specs.declared.parts.Act.{Act}
use Rattle.mf_lines.specs.declared.parts.Act.TheVariants as act
use Rattle.mf_lines.specs.Meaning.{file_in}
use Rattle.mf_vault.specs.declared.answers.Pinned.{Pinned}
use Rattle.mf_vault.specs.declared.answers.Pinned.TheVariants as pinned
use Rattle.mf_vault.specs.Facts.{Facts, stages}
use Rattle.mf_vault.specs.Actor.{Actor, Call, did, cut_off, pin, unpin, lose}
use Rattle.mf_vault.specs.Licence.{Does}
use Rattle.mf_convert.specs.Create.{Creates}
use Rattle.mf_convert.specs.Convert.{Converts}
use Rattle.mf_convert.specs.Remove.{Removes}
use Rattle.mf_read.specs.declared.outcome.ReadOutcome.{ReadOutcome}
use Rattle.mf_read.specs.declared.outcome.ReadOutcome.TheVariants as read
use Rattle.mf_read.specs.Reading.{Reads}
use Rattle.mf_repair.specs.Repair.{Repairs}
use Rattle.mf_reclaim.specs.Reclaim.{Reclaims}
use Rattle.mf_client.specs.declared.done.Outcome.{Outcome}
use Rattle.mf_client.specs.declared.done.Outcome.TheVariants as outcome
use Rattle.mf_client.specs.declared.done.Part.{Part}
use Rattle.mf_client.specs.OnFile.{OnFile}
use Rattle.mf_client.specs.Sweeps.{IsSwept}

-- ---- the servers that can't be reached

-- those that a command names
abbrev pub away_of : Act → Servers
away_of (act.Read file away) = away
away_of (act.Repair file away) = away
away_of (act.Convert file away stop) = away
away_of any_other = no_servers

-- they are cut off in all files
abbrev pub cut_all : Servers → List Actor → List Actor
cut_all away actors = map (did (cut_off away)) actors

-- ---- what comes of a command on one file, from the file's actor before it to that after it

-- a create; where memory ran out before it began, nothing was done
abbrev pub IsCreated : Outcome → Actor → Actor → Type 0
IsCreated (outcome.Change change) a b = Creates change a b
IsCreated outcome.Memory a b = b ≡ a
IsCreated other a b = ⊥

-- a read that didn't give the bytes
abbrev pub IsRefused : ReadOutcome → Actor → Actor → Type 0
IsRefused (read.Bytes g bytes from) a b = ⊥
IsRefused refused a b = Reads refused a b

-- a read, which tells how many bytes it gave, and their SHA-256
abbrev pub IsReadOut : Outcome → Actor → Actor → Type 0
IsReadOut (outcome.Bytes g count from digest) a b = (bytes : Vec ℕ Global) × Reads (read.Bytes g bytes from) a b
    × (count ≡ length bytes.items) × (digest ≡ sha256 bytes.items)
IsReadOut (outcome.Refused refused) a b = IsRefused refused a b
IsReadOut other a b = ⊥

-- a repair
abbrev pub IsRepaired : Outcome → Actor → Actor → Type 0
IsRepaired (outcome.Repair repair) a b = Repairs repair a b
IsRepaired other a b = ⊥

-- a conversion by one stage, unless the file is in its last, with the number of operations behind which it stops
abbrev pub IsConverted : (stop : Option ℕ) → Outcome → Actor → Actor → Type 0
IsConverted stop (outcome.Change change) a b = Converts (stages a.facts - 1) stop change a b
IsConverted stop other a b = ⊥

-- a reclaim
abbrev pub IsReclaimed : Outcome → Actor → Actor → Type 0
IsReclaimed (outcome.Reclaim reclaim) a b = Reclaims reclaim a b
IsReclaimed other a b = ⊥

-- a remove
abbrev pub IsRemoved : Outcome → Actor → Actor → Type 0
IsRemoved (outcome.Change change) a b = Removes change a b
IsRemoved other a b = ⊥

-- the Hold slot was free, and a pin of it had this answer
abbrev pub Pins : Pinned → Actor → Actor → Type 0
Pins p a b = (a.view.hold ≡ 0) × ((missed : List ℕ) × Does (pin Hold missed p ∷ []) a b)

-- a hold
abbrev pub IsHeld : Outcome → Actor → Actor → Type 0
IsHeld (outcome.Held g) a b = Pins (pinned.At g) a b
IsHeld outcome.HoldAbsent a b = Pins pinned.Absent a b
IsHeld outcome.HoldRemoved a b = Pins pinned.Removed a b
IsHeld (outcome.AlreadyHeld g) a b = (a.view.hold ≡ g + 1) × (b ≡ a)
IsHeld other a b = ⊥

-- a release
abbrev pub IsReleased : Outcome → Actor → Actor → Type 0
IsReleased (outcome.Released g) a b = (a.view.hold ≡ g + 1) × Does (unpin Hold ∷ []) a b
IsReleased outcome.NotHeld a b = (a.view.hold ≡ 0) × (b ≡ a)
IsReleased other a b = ⊥

-- ---- the command that empties a server, in all files

-- a file's names on a server, in order
abbrev pub names_on : Facts → (server : ℕ) → List Name
names_on f server = filter (is_on f.book server) (all_names f.book)

-- names in turn are lost by the command of this line, each with its answer
abbrev pub loses : (line : ℕ) → List Name → List Bool → List Call
loses line [] answers = []
loses line (x ∷ names) [] = []
loses line (x ∷ names) (b ∷ answers) = lose x line b ∷ loses line names answers

-- they were, in the file of this actor, and n were there
pub record LosesIn (line : ℕ) (names : List Name) (n : ℕ) (a b : Actor) : Type 0 where
  pub answers : List Bool
  pub long : length answers ≡ length names
  pub count : n ≡ length (filter (λ (there : Bool). there) answers)
  pub does : Does (loses line names answers) a b

-- so in all files in turn, each with its list of names
abbrev pub LosesAll : (line : ℕ) → List (List Name) → (n : ℕ) → List Actor → List Actor → Type 0
LosesAll line [] n [] [] = n ≡ 0
LosesAll line (names ∷ lists) n (a ∷ before) (b ∷ after) =
    (k rest : ℕ) × (n ≡ k + rest) × LosesIn line names k a b × LosesAll line lists rest before after
LosesAll line lists n before after = ⊥

-- the names on a server of each file
abbrev pub lists_on : (server : ℕ) → List Actor → List (List Name)
lists_on server actors = map (λ (a : Actor). names_on a.facts server) actors

-- where memory ran out nothing was lost
abbrev pub IsLost : (server line : ℕ) → Outcome → List Actor → List Actor → Type 0
IsLost server line (outcome.Lost n) before after = LosesAll line (lists_on server before) n before after
IsLost server line outcome.Memory before after = after ≡ before
IsLost server line other before after = ⊥

-- ---- any command

-- what came of a command on one file
abbrev pub Comes : Act → Outcome → Actor → Actor → Type 0
Comes (act.Create file) came = IsCreated came
Comes (act.Read file away) came = IsReadOut came
Comes (act.Repair file away) came = IsRepaired came
Comes (act.Convert file away stop) came = IsConverted stop came
Comes (act.Reclaim file) came = IsReclaimed came
Comes (act.Remove file) came = IsRemoved came
Comes (act.Hold file) came = IsHeld came
Comes (act.Release file) came = IsReleased came
Comes (act.Lose server) came = λ a b. ⊥
Comes act.Sweep came = λ a b. ⊥

-- such a command has no parts
abbrev pub ActsOn : (file : ℕ) → (Actor → Actor → Type 0) → List Part → List Actor → List Actor → Type 0
ActsOn file Goes parts before after = (parts ≡ []) × OnFile file Goes before after

-- what a command that is on no file did; the files' families have these policies
abbrev pub ActsAlone : (policies : List (Option (List ℕ))) → (line : ℕ) → Act → Outcome → List Part → List Actor
    → List Actor → Type 0
ActsAlone policies line (act.Lose server) came parts before after = (parts ≡ []) × IsLost server line came before after
ActsAlone policies line act.Sweep came parts before after = IsSwept policies came parts before after
ActsAlone policies line other came parts before after = ⊥

-- what a command did that is on this file, or on none
abbrev pub ActsBy : Option ℕ → (policies : List (Option (List ℕ))) → (line : ℕ) → Act → Outcome → List Part
    → List Actor → List Actor → Type 0
ActsBy (Some file) policies line x came parts before after = ActsOn file (Comes x came) parts before after
ActsBy None policies line x came parts before after = ActsAlone policies line x came parts before after

-- what the command in this line did, behind the cutting off; the files' families have these policies
abbrev pub Acts : (policies : List (Option (List ℕ))) → (line : ℕ) → Act → Outcome → List Part → List Actor
    → List Actor → Type 0
Acts policies line x came parts before after = ActsBy (file_in x) policies line x came parts before after
