-- What an actor has, and what it was answered: the questions that steps and rules ask of it.
use Rattle.std.specs.Prelude.{◌≡◌, ◌⊎◌, ℕ, ◌+◌, ◌<◌, List}
use Rattle.mf_machine.specs.declared.answer.Slot.{Slot}
use Rattle.mf_machine.specs.declared.answer.Slot.TheVariants.{Hold, Work}
use Rattle.mf_machine.specs.declared.view.Build.{Build}
use Rattle.mf_machine.specs.declared.view.Inside.{Inside}
use Rattle.mf_machine.specs.declared.view.Met.{Met}
use Rattle.mf_machine.specs.declared.view.View.{View}
use Rattle.mf_machine.specs.Counts.{bit, times}
use Rattle.mf_machine.specs.File.{File, Holds}
use Rattle.mf_machine.specs.Words.{no, yes, vacant, filled, Fills}

-- n stands in the list
abbrev pub Among : ℕ → List ℕ → Type 0
Among n xs = 0 < times n xs

-- 1 where the place has the number n
abbrev pub has : ℕ → ℕ → ℕ
has n place = bit place (filled n)

-- the pins of these two slots on g
abbrev pub on : (g hold work : ℕ) → ℕ
on g hold work = has g hold + has g work

-- the actor's pins on an open g
abbrev pub live : ℕ → View → ℕ
live g v = on g v.hold v.work

-- the place of a slot
abbrev pub slot_of : Slot → View → ℕ
slot_of Hold v = v.hold
slot_of Work v = v.work

-- the slot is free
abbrev pub IsFreeSlot : Slot → View → Type 0
IsFreeSlot slot v = slot_of slot v ≡ vacant

-- it is pinned on g
abbrev pub IsPinnedOn : ℕ → Slot → View → Type 0
IsPinnedOn g slot v = Fills (slot_of slot v) g

-- the actor hasn't been taken in by another
abbrev pub Active : View → Type 0
Active v = 0 < v.share

-- it has the right
abbrev pub HasRight : Build → Type 0
HasRight b = b.right ≡ yes

-- it hasn't
abbrev pub LacksRight : Build → Type 0
LacksRight b = b.right ≡ no

-- it has looked at the published number since its begin
abbrev pub HasLooked : Build → Type 0
HasLooked b = b.looked ≡ yes

-- the number that it last looked at
abbrev pub LastLooked : (last number : ℕ) → Type 0
LastLooked last number = Fills last number

-- g was answered Closed to it
abbrev pub SawShut : ℕ → View → Type 0
SawShut g v = Among g v.seen.shut

-- g wasn't answered Closed to it
abbrev pub NeverSawShut : ℕ → View → Type 0
NeverSawShut g v = times g v.seen.shut ≡ 0

-- it is inside a get of the name
abbrev pub IsGetting : Inside → ℕ → Type 0
IsGetting i n = Fills i.getting n

-- it is inside a birth of the name
abbrev pub IsBearing : Inside → ℕ → Type 0
IsBearing i n = Fills i.bearing n

-- it is inside a retake of the name
abbrev pub IsRetaking : Inside → ℕ → Type 0
IsRetaking i n = Fills i.retaking n

-- it is inside a lose of the name
abbrev pub IsLosing : Inside → ℕ → Type 0
IsLosing i n = Fills i.losing n

-- it is inside a drop of the name
abbrev pub IsDropping : Inside → ℕ → Type 0
IsDropping i n = Fills i.dropping n

-- its drop of the name is between its two tries
abbrev pub IsTrying : Inside → ℕ → Type 0
IsTrying i n = Fills i.trying n

-- the places of a birth, retake, lose or drop, added up
abbrev pub busy : Inside → ℕ
busy i = i.bearing + i.retaking + i.losing + i.dropping + i.trying

-- it is inside no birth, retake, lose or drop
abbrev pub Idle : View → Type 0
Idle v = busy v.inside ≡ vacant

-- and it has no name Taken
abbrev pub Free : View → Type 0
Free v = v.inside.getting + busy v.inside ≡ vacant

-- it has the turn of a slot
abbrev pub HasTurn : View → Type 0
HasTurn v = vacant < v.inside.getting + v.inside.bearing + v.inside.retaking + v.inside.losing + v.inside.dropping

-- a pin of these two slots is on a generation that holds the name
abbrev pub PinHolds : File → (hold work n : ℕ) → Type 0
PinHolds f hold work n = (g : ℕ) × (g < f.stages) × (0 < on g hold work) × Holds f g n

-- g is the next generation: its number is the published one that was looked at since the begin
abbrev pub IsNext : File → Build → (last g : ℕ) → Type 0
IsNext f b last g = HasRight b × HasLooked b × LastLooked last g × (g < f.stages)

-- the actor has the right, and the next generation holds the name
abbrev pub NextHolds : File → Build → (last n : ℕ) → Type 0
NextHolds f b last n = (g : ℕ) × IsNext f b last g × Holds f g n

-- the actor has the right, and the generation of its Work pin or the next one holds the name
abbrev pub WorkHolds : File → Build → (last work n : ℕ) → Type 0
WorkHolds f b last work n = HasRight b
    × (((g : ℕ) × (g < f.stages) × Fills work g × Holds f g n) ⊎ NextHolds f b last n)

-- a close of g was answered Done or Already
abbrev pub Shown : ℕ → Met → Type 0
Shown g m = 0 < times g m.closed + times g m.already

-- so was a close of each generation that holds the name
abbrev pub AllShown : File → Met → ℕ → Type 0
AllShown f m n = (g : ℕ) → g < f.stages → Holds f g n → Shown g m
