-- What the parts of a repair come to.
use Rattle.std.specs.Prelude.{◌≡◌, ◌≢◌, ℕ, zero, suc, ◌+◌, ◌*◌, ◌<◌, ◌≤◌, Bool, true, false, List, [], ◌∷◌, ◌++◌}
use Rattle.std.specs.Prelude.{length, map, take, drop, filter, cond, All, Option, Some, None, Result, Ok, Err}
use Rattle.std.specs.List.{AllPairs, list_any}
use Rattle.std.specs.declared.alloc.AllocError.{AllocError}
use Rattle.std.specs.declared.vec.Vec.{Vec}
use Rattle.std.specs.declared.alloc.Global.{Global}
use Rattle.mf_code.specs.Chunks.{parity}
use Rattle.mf_code.specs.Stripes.{stripe}
use Rattle.mf_machine.specs.Actors.{Among}
use Rattle.mf_machine.specs.declared.answer.State.{State}
use Rattle.mf_places.specs.declared.Name.{Name}
use Rattle.mf_places.specs.Facts.{BookFacts, IsBook}
use Rattle.mf_places.specs.Generations.{holds_in, stripe_names}
use Rattle.mf_places.specs.Names.{HasName, stripes_of}
use Rattle.mf_places.specs.Numbers.{number_of}
use Rattle.mf_shape.specs.Stages.{width_at, parities_at}
use Rattle.mf_vault.specs.declared.answers.Answer.{Answer}
use Rattle.mf_vault.specs.declared.answers.Answer.TheVariants as answer
use Rattle.mf_vault.specs.declared.answers.Entry.{Entry}
use Rattle.mf_vault.specs.declared.answers.Entry.TheVariants as entry
use Rattle.mf_vault.specs.declared.answers.Op.{Op}
use Rattle.mf_vault.specs.declared.answers.Op.TheVariants as op
use Rattle.mf_vault.specs.Answers.{IsReached}
use Rattle.mf_vault.specs.Facts.{Facts, number, stages}
use Rattle.mf_vault.specs.Actor.{Actor, Call}
use Rattle.mf_vault.specs.Licence.{Does}
use Rattle.mf_read.specs.Asking.{Ask, lost_in, away_in}
use Rattle.mf_read.specs.Groups.{answer_ask}
use Rattle.mf_read.specs.Reading.{bears}
use Rattle.mf_read.specs.Reading.{stripes}
use Rattle.mf_repair.specs.declared.cells.Made.{Made}
use Rattle.mf_repair.specs.declared.outcome.RepairOutcome.{RepairOutcome}
use Rattle.mf_repair.specs.declared.outcome.RepairOutcome.TheVariants as outcome
use Rattle.mf_repair.specs.Repair.{probes, lost_names, restores, once, same_name, IsMended, AreMended, IsEnd}
use Rattle.mf_repair.specs.Repair.{IsRepairOf}

-- The actor has the right, and generation g pinned in the Work slot.
pub record IsMender (g : ℕ) (a : Actor) : Type 0 where
  pub stage : g < stages a.facts
  pub right : a.view.build.right ≡ 1
  pub work : a.view.work ≡ g + 1

-- Generation g has a stripe j.
pub record HasStripe (g j : ℕ) (b : BookFacts) : Type 0 where
  pub stage : g < length b.shape.stages
  pub stripe : j < stripes_of b (width_at b.shape.stages g)

-- The file's facts, the right, the pins and the cut-off servers are as before.
pub record Stays (a b : Actor) : Type 0 where
  pub facts : b.facts ≡ a.facts
  pub right : b.view.build.right ≡ a.view.build.right
  pub hold : b.view.hold ≡ a.view.hold
  pub work : b.view.work ≡ a.view.work
  pub cut : b.cut ≡ a.cut

-- ---- the names of a stripe

-- Stripe j of generation g has the name.
abbrev pub IsIn : BookFacts → (g j : ℕ) → Name → Type 0
IsIn b g j x = HasName b x × (holds_in b g j x ≡ true)

-- They have different numbers.
abbrev pub AreApart : BookFacts → List Name → Type 0
AreApart b names = AllPairs (λ x y. number_of b x ≢ number_of b y) names

-- The name was found lost, and can be reached.
pub record IsLostOf (g j : ℕ) (a : Actor) (x : Name) : Type 0 where
  pub stripe : IsIn a.facts.book g j x
  pub lost : Among (number a.facts x) a.view.build.lost
  pub reached : IsReached a x

-- Each name of the stripe was probed, and these were answered Lost.
pub record Probes (g j : ℕ) (lost : List Name) (a b : Actor) : Type 0 where
  pub states : List State
  pub long : length states ≡ length (stripe_names a.facts.book g j)
  pub names : lost ≡ lost_names (stripe_names a.facts.book g j) states
  pub found : All (IsLostOf g j b) lost
  pub does : Does (probes (stripe_names a.facts.book g j) states) a b
  pub stays : Stays a b

-- So, or nothing was done.
abbrev pub ProbesSome : (g j : ℕ) → Result (Vec Name Global) AllocError → Actor → Actor → Type 0
ProbesSome g j (Ok lost) a b = Probes g j lost.items a b
ProbesSome g j (Err e) a b = b ≡ a

-- All these names were restored, or none.
abbrev pub RestoresSome : Result Unit AllocError → List Name → Actor → Actor → Type 0
RestoresSome (Ok x) lost a b = Does (restores lost) a b
RestoresSome (Err e) lost a b = b ≡ a

-- These are the chunks and the parities of stripe j of generation g.
pub record AreMade (b : BookFacts) (file : List ℕ) (g j : ℕ) (made : Made) : Type 0 where
  pub book : IsBook b
  pub has : HasStripe g j b
  pub long : length file ≡ b.bytes
  pub start : made.start ≡ j * width_at b.shape.stages g
  pub chunks : made.chunks.now ≡ stripe b.chunk file (width_at b.shape.stages g) j
  pub parities : made.parities.items ≡ map (λ point. parity b.chunk file point (width_at b.shape.stages g) j)
      (take (parities_at b.shape.stages g) b.points)

-- ---- what entries tell

-- What probes and gets found.
abbrev pub op_told : Op → Name → Answer → List Ask
op_told op.Get x a = answer_ask x a
op_told op.Probe x a = answer_ask x a
op_told o x a = []

abbrev pub entry_told : Entry → List Ask
entry_told (entry.Chunk o x a) = op_told o x a
entry_told (entry.Close g c) = []

abbrev pub told_by : List Entry → List Ask
told_by [] = []
told_by (e ∷ entries) = entry_told e ++ told_by entries

-- The first, if there is one.
abbrev pub first_of : List (Name × ℕ) → Option (Name × ℕ)
first_of [] = None
first_of (x ∷ xs) = Some x

-- An entry's lost name with its line, and its name that can't be reached with the server.
abbrev pub lost_name : Entry → Option (Name × ℕ)
lost_name e = first_of (lost_in (entry_told e))

abbrev pub away_name : Entry → Option (Name × ℕ)
away_name e = first_of (away_in (entry_told e))

-- The list with what was found, where its name isn't among those before.
abbrev pub with_found : List (Name × ℕ) → Option (Name × ℕ) → List (Name × ℕ)
with_found xs None = xs
with_found xs (Some y) = cond (list_any (λ (x : Name × ℕ). same_name x.0 y.0) xs) xs (xs ++ y ∷ [])

-- The entries from number `from` on tell more names lost than generation g bears, or a name that can't be reached.
abbrev pub LacksNames : (g from : ℕ) → Actor → Type 0
LacksNames g from a = let found = told_by (drop from a.entries) in away_in found ≡ []
    → bears a.facts.book g < length (once (lost_in found))

-- What a short asking comes to, where so many lost names are borne.
pub data IsShortOf (most g j : ℕ) (found : List Ask) : RepairOutcome → Type 0 where
  data_lost : most < length (once (lost_in found)) → IsShortOf most g j found (outcome.DataLost g j (once
      (lost_in found)))
  unreachable : (x : Name) (server : ℕ) (others : List (Name × ℕ)) → length (once (lost_in found)) ≤ most
      → away_in found ≡ (x, server) ∷ others → IsShortOf most g j found (outcome.Unreachable g j x server)
  no_memory : IsShortOf most g j found outcome.Memory

-- Restores, and probes of names that couldn't be reached.
abbrev pub is_restore : Entry → Bool
is_restore (entry.Chunk op.Restore x a) = true
is_restore e = false

abbrev pub is_skip : Entry → Bool
is_skip (entry.Chunk op.Probe x (answer.Away server)) = true
is_skip e = false

abbrev pub restore_entries : List Entry → ℕ
restore_entries entries = length (filter is_restore entries)

abbrev pub skip_entries : List Entry → ℕ
skip_entries entries = length (filter is_skip entries)

-- ---- stripes

-- A stripe was mended, or the repair ends at it.
abbrev pub RepairsStripe : (g j : ℕ) → Result Unit RepairOutcome → Actor → Actor → Type 0
RepairsStripe g j (Ok x) a b = (calls : List Call) × IsMended a.facts g j calls × Does calls a b
RepairsStripe g j (Err o) a b = (calls : List Call) × IsEnd a.facts g j o calls × Does calls a b

-- All stripes were, or the repair ended.
abbrev pub RepairsAll : (g : ℕ) → Result Unit RepairOutcome → Actor → Actor → Type 0
RepairsAll g (Ok x) a b =
    (calls : List Call) × AreMended a.facts g (stripes a.facts.book g) calls × Does calls a b
RepairsAll g (Err o) a b = (calls : List Call) × IsRepairOf a.facts g o calls × Does calls a b

-- A generation was repaired.
abbrev pub RepairsOf : (g : ℕ) → RepairOutcome → Actor → Actor → Type 0
RepairsOf g o a b = (calls : List Call) × IsRepairOf a.facts g o calls × Does calls a b
