-- What follows of a reclaim.
use Rattle.std.specs.Prelude.{◌≡◌, ◌≢◌, ℕ, ◌<◌, false, List, [], ◌∷◌, Some}
use Rattle.mf_machine.specs.declared.answer.Slot.TheVariants.{Hold, Work}
use Rattle.mf_machine.specs.Actors.{IsPinnedOn, IsFreeSlot}
use Rattle.mf_machine.specs.Worlds.{World}
use Rattle.mf_places.specs.Facts.{BookFacts}
use Rattle.mf_places.specs.Generations.{holds}
use Rattle.mf_vault.specs.Actor.{Actor, Call}
use Rattle.mf_vault.specs.Actor as call
use Rattle.mf_vault.specs.Facts.{stages}
use Rattle.mf_vault.specs.Gains.{EngineGains}
use Rattle.mf_reclaim.specs.declared.outcome.ReclaimOutcome.{ReclaimOutcome}
use Rattle.mf_reclaim.specs.declared.outcome.ReclaimOutcome.TheVariants as outcome
use Rattle.mf_reclaim.specs.Reclaim.{Reclaims}

-- Where the whole state is told, a reclaim that had its memory has one outcome, and leaves one actor.
abbrev pub ReclaimsOnce : Type 0
ReclaimsOnce = (a b c : Actor) (w : World) (o p : ReclaimOutcome) → a.whole ≡ Some w → Reclaims o a b
    → Reclaims p a c → o ≢ outcome.Memory → p ≢ outcome.Memory → (o ≡ p) × (b ≡ c)

-- None of these calls discards a name that generation g holds.
abbrev pub SparesNames : BookFacts → (g : ℕ) → List Call → Type 0
SparesNames b g [] = Unit {0}
SparesNames b g (call.discard x changed ∷ calls) = (holds b g x ≡ false) × SparesNames b g calls
SparesNames b g (c ∷ calls) = SparesNames b g calls

-- A reclaim discards no name of the generation that its own client holds.
abbrev pub HeldStays : Type 0
HeldStays = (a b : Actor) (g : ℕ) (o : ReclaimOutcome) → (x : Reclaims o a b) → IsPinnedOn g Hold a.view
    → g < stages a.facts → SparesNames a.facts.book g x.calls

-- A reclaim publishes nothing and takes no right, and its Work slot is free at each close; Made and Met grow by its
-- entries and its pin.
abbrev pub ReclaimsGain : Type 0
ReclaimsGain = (a b : Actor) (o : ReclaimOutcome) → (x : Reclaims o a b) → IsFreeSlot Work a.view
    → EngineGains x.calls [] 0 0 a b
