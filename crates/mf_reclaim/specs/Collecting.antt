-- What an actor knows on the way of a reclaim.
use Rattle.std.specs.Prelude.{◌≡◌, ℕ, ◌<◌, ◌≤◌, Bool, true, List, ◌++◌, length, filter}
use Rattle.mf_machine.specs.Actors.{Shown}
use Rattle.mf_machine.specs.declared.answer.Closed.{Closed}
use Rattle.mf_vault.specs.Facts.{stages}
use Rattle.mf_vault.specs.Actor.{Actor}
use Rattle.mf_vault.specs.Licence.{Does}
use Rattle.mf_reclaim.specs.declared.outcome.ReclaimOutcome.{ReclaimOutcome}
use Rattle.mf_reclaim.specs.declared.outcome.ReclaimOutcome.TheVariants as outcome
use Rattle.mf_reclaim.specs.Reclaim.{closes, discards, free_names, was_shut, is_done, count_true, pins_from}

-- The generations below `end` are stages, and a number above theirs was seen.
pub record HasSeen (end : ℕ) (a : Actor) : Type 0 where
  pub stage : end ≤ stages a.facts
  pub number : end < a.view.seen.number

-- Each generation that these closes say is closed was answered so.
abbrev pub AreShown : List Closed → Actor → Type 0
AreShown answers a = (g : ℕ) → was_shut answers g ≡ true → Shown g a.view.own

-- The free names were discarded, and so many of them dropped.
pub record Discards (answers : List Closed) (dropped : ℕ) (a b : Actor) : Type 0 where
  pub changed : List Bool
  pub long : length changed ≡ length (free_names a.facts.book answers)
  pub count : dropped ≡ count_true changed
  pub does : Does (discards (free_names a.facts.book answers) changed) a b

-- The generations below `end` were closed, and the free names discarded.
pub record Collects (end : ℕ) (o : ReclaimOutcome) (a b : Actor) : Type 0 where
  pub answers : List Closed
  pub changed : List Bool
  pub each : length answers ≡ end
  pub long : length changed ≡ length (free_names a.facts.book answers)
  pub outcome : o ≡ outcome.Reclaimed (length (filter is_done answers)) (count_true changed) (pins_from 0 answers)
  pub does : Does (closes 0 answers ++ discards (free_names a.facts.book answers) changed) a b
