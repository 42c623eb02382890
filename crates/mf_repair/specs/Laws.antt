-- What follows of a repair.
use Rattle.std.specs.Prelude.{◌≡◌, ◌≢◌, ℕ, [], Some}
use Rattle.mf_machine.specs.Worlds.{World}
use Rattle.mf_vault.specs.Actor.{Actor}
use Rattle.mf_vault.specs.Gains.{EngineGains}
use Rattle.mf_repair.specs.declared.outcome.RepairOutcome.{RepairOutcome}
use Rattle.mf_repair.specs.declared.outcome.RepairOutcome.TheVariants as outcome
use Rattle.mf_repair.specs.Repair.{Repairs}

-- Where the whole state is told, a repair that had its memory has one outcome, and leaves one actor.
abbrev pub RepairsOnce : Type 0
RepairsOnce = (a b c : Actor) (w : World) (o p : RepairOutcome) → a.whole ≡ Some w → Repairs o a b
    → Repairs p a c → o ≢ outcome.Memory → p ≢ outcome.Memory → (o ≡ p) × (b ≡ c)

-- How often a repair that ends so has taken the right, and was refused it.
abbrev pub rights_of : RepairOutcome → ℕ
rights_of outcome.Busy = 0
rights_of o = 1

abbrev pub refusals_of : RepairOutcome → ℕ
refusals_of outcome.Busy = 1
refusals_of o = 0

-- A repair publishes nothing and closes nothing, and takes the right once, or was refused it where it is Busy; beside
-- that Made and Met grow by its entries and its pin.
abbrev pub RepairsGain : Type 0
RepairsGain = (a b : Actor) (o : RepairOutcome) → (x : Repairs o a b)
    → EngineGains x.calls [] (rights_of o) (refusals_of o) a b
