-- What a sweep does.
use Rattle.std.specs.Prelude.{◌≡◌, ℕ, zero, suc, Bool, true, false, List, [], ◌∷◌, map, filter, Option, None, count_by}
use Rattle.std.specs.List.{flat_map}
use Rattle.mf_policy.specs.Due.{sweep_of}
use Rattle.mf_vault.specs.Actor.{Actor}
use Rattle.mf_vault.specs.Facts.{age}
use Rattle.mf_convert.specs.declared.change.Change.{Change}
use Rattle.mf_convert.specs.declared.change.Change.TheVariants as change
use Rattle.mf_convert.specs.Convert.{Converts}
use Rattle.mf_client.specs.declared.done.Outcome.{Outcome}
use Rattle.mf_client.specs.declared.done.Outcome.TheVariants as outcome
use Rattle.mf_client.specs.declared.done.Part.{Part}
use Rattle.mf_client.specs.OnFile.{OnFile}

-- ---- one file

-- the change published a generation
abbrev pub is_converted : Change → Bool
is_converted (change.Converted from to made) = true
is_converted any_other = false

-- a sweep tells of each change but that the file was in a late enough stage, wasn't created, or was removed
abbrev pub is_part : Change → Bool
is_part (change.Last g) = false
is_part change.Absent = false
is_part change.Removed = false
is_part any_other = true

-- a file that is due, its due stage, and what came of its conversions
pub record Visit : Type 0 where
  pub file : ℕ
  pub due : ℕ
  pub changes : List Change

-- conversions up to this stage, in turn, led from one actor to the other
abbrev pub ConvertsInTurn : (upto : ℕ) → List Change → Actor → Actor → Type 0
ConvertsInTurn upto [] a b = b ≡ a
ConvertsInTurn upto (c ∷ cs) a b = (mid : Actor) × Converts upto None c a mid × ConvertsInTurn upto cs mid b

-- these are all changes of a file: they end with the first that published no generation, or are so many
abbrev pub AreAll : (most : ℕ) → List Change → Type 0
AreAll zero cs = cs ≡ []
AreAll (suc most) [] = ⊥
AreAll (suc most) (change.Converted from to made ∷ cs) = AreAll most cs
AreAll (suc most) (any_other ∷ cs) = cs ≡ []

-- a visit led from one actor of its file to the other
pub record Visits (v : Visit) (a b : Actor) : Type 0 where
  pub converts : ConvertsInTurn v.due v.changes a b
  pub all : AreAll v.due v.changes

-- what a sweep tells of these changes of a file
abbrev pub parts_of : (file : ℕ) → List Change → List Part
parts_of file changes = map (λ (c : Change). record { file = file; change = c }) (filter is_part changes)

-- ---- all files

-- visits in turn led from these actors of the files to those
abbrev pub VisitsInTurn : List Visit → List Actor → List Actor → Type 0
VisitsInTurn [] before after = after ≡ before
VisitsInTurn (v ∷ vs) before after =
    (mid : List Actor) × OnFile v.file (Visits v) before mid × VisitsInTurn vs mid after

-- what a sweep tells of these visits
abbrev pub parts_in : List Visit → List Part
parts_in visits = flat_map (λ (v : Visit). parts_of v.file v.changes) visits

-- the ages of the files
abbrev pub ages_in : List Actor → List ℕ
ages_in actors = map (λ (a : Actor). age a.facts) actors

-- the files of these visits, with their due stages
abbrev pub dues_of : List Visit → List (ℕ × ℕ)
dues_of visits = map (λ (v : Visit). (v.file, v.due)) visits

-- each file that is due by the policy of its family was visited once, in order; n conversions published a generation
pub record Sweeps (policies : List (Option (List ℕ))) (n : ℕ) (parts : List Part) (before after : List Actor)
    : Type 0 where
  pub visits : List Visit
  pub due : dues_of visits ≡ sweep_of policies (ages_in before)
  pub turn : VisitsInTurn visits before after
  pub told : parts ≡ parts_in visits
  pub count : n ≡ count_by (λ (part : Part). is_converted part.change) parts

-- what came of a sweep by the policies of the files' families; where memory ran out before it began, nothing was done
abbrev pub IsSwept : (policies : List (Option (List ℕ))) → Outcome → List Part → List Actor → List Actor → Type 0
IsSwept policies (outcome.Swept n) parts before after = Sweeps policies n parts before after
IsSwept policies outcome.Memory parts before after = (parts ≡ []) × (after ≡ before)
IsSwept policies other parts before after = ⊥
