-- What calls add to their actor's Made and Met: just what their entries say, the numbers that were looked at and
-- published, the begins, the pins, and a Here for each get that ended for want of memory.
use Rattle.std.specs.Prelude.{◌≡◌, ℕ, ◌+◌, ◌≤◌, ◌==◌, true, false, List, [], ◌∷◌, ◌++◌, cond}
use Rattle.mf_machine.specs.declared.answer.Closed.TheVariants as closed
use Rattle.mf_machine.specs.declared.answer.Slot.TheVariants.{Work}
use Rattle.mf_machine.specs.declared.view.Refusal.{Refusal}
use Rattle.mf_machine.specs.declared.view.View.{View}
use Rattle.mf_machine.specs.Actors.{IsFreeSlot}
use Rattle.mf_machine.specs.Answers as said
use Rattle.mf_machine.specs.Answers.{Answer, often, makes}
use Rattle.mf_machine.specs.Counts.{bit, times, losses}
use Rattle.mf_machine.specs.Words.{number_of}
use Rattle.mf_vault.specs.declared.answers.Answer.TheVariants as answer
use Rattle.mf_vault.specs.declared.answers.Entry.{Entry}
use Rattle.mf_vault.specs.declared.answers.Entry.TheVariants as entry
use Rattle.mf_vault.specs.declared.answers.Got.TheVariants as got
use Rattle.mf_vault.specs.declared.answers.Op.TheVariants as op
use Rattle.mf_vault.specs.declared.answers.Pinned.{Pinned}
use Rattle.mf_vault.specs.declared.answers.Pinned.TheVariants.{At, Absent, Removed}
use Rattle.mf_vault.specs.Facts.{Facts, number}
use Rattle.mf_vault.specs.Actor.{Actor, Call, did}
use Rattle.mf_vault.specs.Actor as call
use Rattle.mf_vault.specs.Licence.{entries_of, number_of_pin}

-- ---- what entries say

-- how often an entry says this. Away says nothing. The line of a loss, and a closer's own pins, stand in no entry: see
-- `tells_loss` and `tells_pins`
abbrev pub tells : Facts → Answer → Entry → ℕ
tells f (said.here n) (entry.Chunk op.Get x answer.Here) = bit (number f x) n
tells f (said.here n) (entry.Chunk op.Probe x answer.Here) = bit (number f x) n
tells f (said.unborn n) (entry.Chunk op.Probe x answer.Unborn) = bit (number f x) n
tells f (said.lost n l) (entry.Chunk op.Get x (answer.Lost k)) = cond (number f x == n) (bit k l) 0
tells f (said.lost n l) (entry.Chunk op.Probe x (answer.Lost k)) = cond (number f x == n) (bit k l) 0
tells f (said.put n) (entry.Chunk op.Put x answer.Done) = bit (number f x) n
tells f (said.restored n) (entry.Chunk op.Restore x answer.Done) = bit (number f x) n
tells f (said.dropped n) (entry.Chunk op.Discard x answer.Done) = bit (number f x) n
tells f (said.not_dropped n) (entry.Chunk op.Discard x answer.Nothing) = bit (number f x) n
tells f (said.not_lost n) (entry.Chunk op.Lose x answer.Nothing) = bit (number f x) n
tells f (said.closed g) (entry.Close h closed.Done) = bit h g
tells f (said.already g) (entry.Close h closed.Already) = bit h g
tells f a e = 0

-- a loss of the name, by whatever line
abbrev pub tells_loss : Facts → ℕ → Entry → ℕ
tells_loss f n (entry.Chunk op.Lose x answer.Done) = bit (number f x) n
tells_loss f n e = 0

-- a close of g that met n pins
abbrev pub tells_pins : (g n : ℕ) → Entry → ℕ
tells_pins g n (entry.Close h (closed.Pins k)) = cond (h == g) (bit k n) 0
tells_pins g n e = 0

-- h of each entry, added up
abbrev pub sum_told : (Entry → ℕ) → List Entry → ℕ
sum_told h [] = 0
sum_told h (e ∷ entries) = h e + sum_told h entries

-- how often a Met has a close of g that met n pins, whoever's they were
abbrev pub pins_met : (g n : ℕ) → List Refusal → ℕ
pins_met g n [] = 0
pins_met g n (r ∷ rest) = cond (r.generation == g) (bit r.pins n) 0 + pins_met g n rest

-- ---- what calls say beside their entries

-- the published numbers that a pin looked at
abbrev pub looked_at : Facts → (missed : List ℕ) → Pinned → List ℕ
looked_at f [] p = number_of_pin f p ∷ []
looked_at f (g ∷ missed) p = number_of g ∷ looked_at f missed p

-- the published numbers that a call looks at, or publishes, in order
abbrev pub looks : Facts → Call → List ℕ
looks f (call.pin slot missed p) = looked_at f missed p
looks f (call.publish next) = next ∷ []
looks f c = []

-- and those of all these calls
abbrev pub looks_of : Facts → List Call → List ℕ
looks_of f [] = []
looks_of f (c ∷ calls) = looks f c ++ looks_of f calls

-- no number is below the one before it, nor the first one below n
abbrev pub NeverFalls : ℕ → List ℕ → Type 0
NeverFalls n [] = Unit {0}
NeverFalls n (x ∷ xs) = (n ≤ x) × NeverFalls x xs

-- 1 where it pinned g
abbrev pub opens : ℕ → Pinned → ℕ
opens g (At h) = bit h g
opens g Absent = 0
opens g Removed = 0

-- how often a call says this beside its entry
abbrev pub beside : Facts → Answer → Call → ℕ
beside f (said.number n) (call.pin slot missed p) = times n (looked_at f missed p)
beside f (said.number n) (call.publish next) = bit next n
beside f said.begun (call.begin true) = 1
beside f said.refused (call.begin false) = 1
beside f (said.opened g) (call.pin slot missed p) = opens g p
beside f (said.missed g) (call.pin slot missed p) = times g missed
beside f (said.here n) (call.get x got.Memory) = bit (number f x) n
beside f a c = 0

-- 1 for a publishing of n
abbrev pub publishes : ℕ → Call → ℕ
publishes n (call.publish next) = bit next n
publishes n c = 0

-- h of each call, added up
abbrev pub sum_calls : (Call → ℕ) → List Call → ℕ
sum_calls h [] = 0
sum_calls h (c ∷ calls) = h c + sum_calls h calls

-- ---- the gains

-- what Made gains by calls, by its entries and its publishings
pub record MadeGains (f : Facts) (calls : List Call) (v u : View) : Type 0 where
  pub closings : (g : ℕ) → times g u.made.closings
      ≡ times g v.made.closings + sum_told (tells f (said.closed g)) (entries_of calls)
  pub put : (n : ℕ) → times n u.made.changes.put
      ≡ times n v.made.changes.put + sum_told (tells f (said.put n)) (entries_of calls)
  pub restored : (n : ℕ) → times n u.made.changes.restored
      ≡ times n v.made.changes.restored + sum_told (tells f (said.restored n)) (entries_of calls)
  pub dropped : (n : ℕ) → times n u.made.changes.dropped
      ≡ times n v.made.changes.dropped + sum_told (tells f (said.dropped n)) (entries_of calls)
  pub lost : (n : ℕ) → losses n u.made.changes.lost
      ≡ losses n v.made.changes.lost + sum_told (tells_loss f n) (entries_of calls)
  pub numbers : (n : ℕ) → times n u.made.numbers ≡ times n v.made.numbers + sum_calls (publishes n) calls

-- an answer that is told whole by entries, or beside them
abbrev pub IsWhole : Answer → Type 0
IsWhole (said.pinned g pins own) = ⊥
IsWhole (said.made_lost n l) = ⊥
IsWhole a = Unit {0}

-- what the own Met gains, by the entries and what stands beside them
pub record MetGains (f : Facts) (calls : List Call) (v u : View) : Type 0 where
  pub told : (a : Answer) → IsWhole a → often a u.own
      ≡ often a v.own + (sum_told (tells f a) (entries_of calls) + sum_calls (beside f a) calls)
  pub made_lost : (n : ℕ) → losses n u.own.made_lost
      ≡ losses n v.own.made_lost + sum_told (tells_loss f n) (entries_of calls)
  pub pins : (g n : ℕ) → pins_met g n u.own.pinned
      ≡ pins_met g n v.own.pinned + sum_told (tells_pins g n) (entries_of calls)
  -- the Mets of actors that were taken in stay
  pub gone : u.gone ≡ v.gone

-- ---- the Work slot at closes

-- the Work slot is free at each close among these calls
abbrev pub FreeAtCloses : List Call → Actor → Type 0
FreeAtCloses [] a = Unit {0}
FreeAtCloses (call.close g c ∷ calls) a = IsFreeSlot Work a.view × FreeAtCloses calls (did (call.close g c) a)
FreeAtCloses (c ∷ calls) a = FreeAtCloses calls (did c a)

-- none of these calls pins the Work slot
abbrev pub LeaveWork : List Call → Type 0
LeaveWork [] = Unit {0}
LeaveWork (call.pin Work missed p ∷ calls) = ⊥
LeaveWork (c ∷ calls) = LeaveWork calls

-- ---- what an engine's calls add

-- these calls published these numbers, and took the right and were refused it so often. Made grows by the entries and
-- these numbers, and by nothing else. The own Met grows by the entries, and beside them by numbers looked at, these
-- begins, and pins: by one on an open generation only where its number was looked at. The Work slot is free at each
-- close
pub record EngineGains (calls : List Call) (numbers : List ℕ) (rights refusals : ℕ) (a b : Actor) : Type 0 where
  pub made : MadeGains a.facts calls a.view b.view
  pub published : (n : ℕ) → times n b.view.made.numbers ≡ times n a.view.made.numbers + times n numbers
  pub met : MetGains a.facts calls a.view b.view
  pub begun : b.view.own.begun ≡ a.view.own.begun + rights
  pub refused : b.view.own.refused ≡ a.view.own.refused + refusals
  pub looked : (g : ℕ) → times g b.view.own.opened + times (number_of g) a.view.own.numbers
      ≤ times g a.view.own.opened + times (number_of g) b.view.own.numbers
  pub free : FreeAtCloses calls a
