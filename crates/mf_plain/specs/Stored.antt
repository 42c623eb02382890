-- What a call makes of what is stored.
use Rattle.std.specs.Prelude.{◌≡◌, ℕ, Bool, true, List, Option, Some, None}
use Rattle.mf_machine.specs.declared.answer.Closed.{Closed}
use Rattle.mf_machine.specs.declared.answer.Closed.TheVariants as closing
use Rattle.mf_machine.specs.declared.answer.Slot.{Slot}
use Rattle.mf_machine.specs.declared.answer.Slot.TheVariants.{Hold, Work}
use Rattle.mf_vault.specs.declared.answers.Got.{Got}
use Rattle.mf_vault.specs.declared.answers.Got.TheVariants as got
use Rattle.mf_vault.specs.declared.answers.Pinned.{Pinned}
use Rattle.mf_vault.specs.declared.answers.Pinned.TheVariants.{At, Absent, Removed}
use Rattle.mf_vault.specs.declared.answers.Rest.{Rest}
use Rattle.mf_vault.specs.declared.answers.Rest.TheVariants as rest

-- the slots after a pin, and after an unpin
abbrev pub filled_by : Pinned → Option ℕ → Option ℕ
filled_by (At g) old = Some g
filled_by Absent old = old
filled_by Removed old = old

abbrev pub pinned_hold : Slot → Pinned → Option ℕ → Option ℕ
pinned_hold Hold p old = filled_by p old
pinned_hold Work p old = old

abbrev pub pinned_work : Slot → Pinned → Option ℕ → Option ℕ
pinned_work Hold p old = old
pinned_work Work p old = filled_by p old

abbrev pub freed_hold : Slot → Option ℕ → Option ℕ
freed_hold Hold old = None
freed_hold Work old = old

abbrev pub freed_work : Slot → Option ℕ → Option ℕ
freed_work Hold old = old
freed_work Work old = None

-- whether a generation is closed after a close
abbrev pub shut_by : Closed → Bool → Bool
shut_by closing.Done shut = true
shut_by (closing.Pins n) shut = shut
shut_by closing.Already shut = shut

-- the name is Here or Lost
abbrev pub IsThere : Rest → Type 0
IsThere rest.Unborn = ⊥
IsThere (rest.Here c) = Unit {0}
IsThere (rest.Lost l) = Unit {0}
IsThere rest.Dropped = ⊥

-- what such a name answers a get
abbrev pub GotOf : Rest → Got → Type 0
GotOf r (got.Here c) = r ≡ rest.Here c
GotOf r (got.Lost l) = r ≡ rest.Lost l
GotOf r (got.Away s) = ⊥
GotOf r got.Memory = (c : List ℕ) × (r ≡ rest.Here c)

-- a name after a discard, and after a lose
abbrev pub dropped_of : Rest → Rest
dropped_of rest.Unborn = rest.Unborn
dropped_of (rest.Here c) = rest.Dropped
dropped_of (rest.Lost l) = rest.Dropped
dropped_of rest.Dropped = rest.Dropped

abbrev pub lost_of : ℕ → Rest → Rest
lost_of l rest.Unborn = rest.Unborn
lost_of l (rest.Here c) = rest.Lost l
lost_of l (rest.Lost k) = rest.Lost k
lost_of l rest.Dropped = rest.Dropped
