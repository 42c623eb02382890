-- What follows of the calls of any access.
use Rattle.std.specs.Prelude.{◌≡◌, ◌≢◌, ℕ, ◌+◌, ◌≤◌, Bool, true, List, Some}
use Rattle.mf_machine.specs.declared.answer.Closed.{Closed}
use Rattle.mf_machine.specs.declared.answer.Slot.{Slot}
use Rattle.mf_machine.specs.declared.answer.Slot.TheVariants.{Work}
use Rattle.mf_machine.specs.declared.answer.State.{State}
use Rattle.mf_machine.specs.Actors.{IsFreeSlot}
use Rattle.mf_machine.specs.Counts.{times}
use Rattle.mf_machine.specs.Laws.{Has}
use Rattle.mf_machine.specs.Words.{number_of}
use Rattle.mf_machine.specs.Worlds.{World}
use Rattle.mf_places.specs.declared.Name.{Name}
use Rattle.mf_vault.specs.declared.answers.Got.{Got}
use Rattle.mf_vault.specs.declared.answers.Got.TheVariants as got
use Rattle.mf_vault.specs.declared.answers.Pinned.{Pinned}
use Rattle.mf_vault.specs.Actor.{Actor, Call}
use Rattle.mf_vault.specs.Actor as call
use Rattle.mf_vault.specs.Answers.{Goes}
use Rattle.mf_vault.specs.Gains.{MadeGains, MetGains, FreeAtCloses, LeaveWork, NeverFalls, looks_of}
use Rattle.mf_vault.specs.Licence.{Does, IsKept}
use Rattle.mf_vault.specs.May.{MayBegin}

-- what an actor has seen and made only grows
abbrev pub SeenGrows : Type 0
SeenGrows = (cs : List Call) (a b : Actor) → Does cs a b → Has a.view b.view

-- Made and Met gain just what the entries say, and beside them the numbers looked at and published, the begins and the
-- pins
abbrev pub EntriesTell : Type 0
EntriesTell = (calls : List Call) (a b : Actor) → Does calls a b
    → MadeGains a.facts calls a.view b.view × MetGains a.facts calls a.view b.view

-- a generation is pinned only where its number was looked at: the Met gains at least as many of the latter
abbrev pub PinsAreLooked : Type 0
PinsAreLooked = (calls : List Call) (a b : Actor) → Does calls a b → (g : ℕ)
    → times g b.view.own.opened + times (number_of g) a.view.own.numbers
    ≤ times g a.view.own.opened + times (number_of g) b.view.own.numbers

-- the published numbers that an actor looks at or publishes never fall, from what it had seen on
abbrev pub LooksNeverFall : Type 0
LooksNeverFall = (calls : List Call) (a b : Actor) → Does calls a b
    → NeverFalls a.view.seen.number (looks_of a.facts calls)

-- calls that don't pin the Work slot leave it free at each close
abbrev pub WorkStaysFree : Type 0
WorkStaysFree = (calls : List Call) (a : Actor) → IsFreeSlot Work a.view → LeaveWork calls → FreeAtCloses calls a

-- where the whole state is told, a begin is never refused
abbrev pub NeverRefused : Type 0
NeverRefused = (a b : Actor) (w : World) (s : Bool) → IsKept a → a.whole ≡ Some w → MayBegin a
    → Goes (call.begin s) a b → s ≡ true

-- where the whole state is told, a call has one answer, want of memory aside
pub record OneAnswer : Type 0 where
  pub begin : (a b c : Actor) (w : World) (s t : Bool) → a.whole ≡ Some w
      → Goes (call.begin s) a b → Goes (call.begin t) a c → s ≡ t
  pub pin : (a b c : Actor) (w : World) (slot : Slot) (gs hs : List ℕ) (p q : Pinned) → a.whole ≡ Some w
      → Goes (call.pin slot gs p) a b → Goes (call.pin slot hs q) a c → (gs ≡ hs) × (p ≡ q)
  pub probe : (a b c : Actor) (w : World) (x : Name) (s t : State) → a.whole ≡ Some w
      → Goes (call.probe x s) a b → Goes (call.probe x t) a c → s ≡ t
  pub close : (a b c : Actor) (w : World) (g : ℕ) (s t : Closed) → a.whole ≡ Some w
      → Goes (call.close g s) a b → Goes (call.close g t) a c → s ≡ t
  pub discard : (a b c : Actor) (w : World) (x : Name) (s t : Bool) → a.whole ≡ Some w
      → Goes (call.discard x s) a b → Goes (call.discard x t) a c → s ≡ t
  pub get : (a b c : Actor) (w : World) (x : Name) (s t : Got) → a.whole ≡ Some w
      → Goes (call.get x s) a b → Goes (call.get x t) a c → s ≢ got.Memory → t ≢ got.Memory → s ≡ t
  pub lose : (a b c : Actor) (w : World) (x : Name) (l : ℕ) (s t : Bool) → a.whole ≡ Some w
      → Goes (call.lose x l s) a b → Goes (call.lose x l t) a c → s ≡ t
