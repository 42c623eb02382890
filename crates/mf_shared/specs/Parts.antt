-- Parts of calls, as private functions make them.
use Rattle.std.specs.Prelude.{◌≡◌, ℕ, ◌<◌, ◌≤◌, Bool, [], Option, Some, None}
use Rattle.mf_machine.specs.declared.answer.Slot.{Slot}
use Rattle.mf_machine.specs.Actors.{SawShut}
use Rattle.mf_machine.specs.Steps.{looked, missed}
use Rattle.mf_machine.specs.Words.{number_of}
use Rattle.mf_places.specs.declared.Name.{Name}
use Rattle.mf_vault.specs.declared.answers.Got.{Got}
use Rattle.mf_vault.specs.declared.answers.Pinned.{Pinned}
use Rattle.mf_vault.specs.Actor.{Actor, Call, seen}
use Rattle.mf_vault.specs.Actor as call
use Rattle.mf_vault.specs.Answers.{Goes, IsFair}
use Rattle.mf_vault.specs.Facts.{stages}

-- a call was made, but for its entry
pub record IsMade (c : Call) (a b : Actor) : Type 0 where
  pub becomes : b ≡ record a { view = seen a.facts c a.view }
  pub fair : IsFair c a

-- g was published, and its pin fell on it when it was closed. Its number is above that of each generation that was seen
-- closed
pub record Misses (g : ℕ) (a b : Actor) : Type 0 where
  pub becomes : b ≡ record a { view = missed g (looked (number_of g) a.view) }
  pub stage : g < stages a.facts
  pub grows : a.view.seen.number ≤ number_of g
  pub beyond : (h : ℕ) → h < stages a.facts → SawShut h a.view → h < g

-- a pin that is tried once: it is answered, or it falls on a closed generation
abbrev pub TriesPin : Slot → Option Pinned → Actor → Actor → Type 0
TriesPin slot (Some p) a b = Goes (call.pin slot [] p) a b
TriesPin slot None a b = (g : ℕ) × Misses g a b

-- a get and a lose that are tried once: they were made, but for the entry, or another actor has the name Taken, and
-- nothing changed
abbrev pub TriesGet : Name → Option Got → Actor → Actor → Type 0
TriesGet x (Some o) a b = IsMade (call.get x o) a b
TriesGet x None a b = b ≡ a

abbrev pub TriesLose : Name → ℕ → Option Bool → Actor → Actor → Type 0
TriesLose x l (Some done) a b = IsMade (call.lose x l done) a b
TriesLose x l None a b = b ≡ a
