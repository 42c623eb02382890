-- Where each call of an access may happen. These are the conditions of the file machine; that the actor is active, and
-- inside of nothing, is kept by every access.
use Rattle.std.specs.Prelude.{◌≡◌, ◌⊎◌, ℕ, ◌<◌, ◌≤◌}
use Rattle.mf_machine.specs.Actors.{HasRight, LacksRight, HasLooked, LastLooked, Among, IsFreeSlot, slot_of}
use Rattle.mf_machine.specs.Actors.{PinHolds, NextHolds, WorkHolds, AllShown}
use Rattle.mf_machine.specs.declared.answer.Slot.{Slot}
use Rattle.mf_machine.specs.File.{Holds, IsLoseLine, removed}
use Rattle.mf_machine.specs.Words.{number_of, vacant}
use Rattle.mf_places.specs.declared.Name.{Name}
use Rattle.mf_places.specs.Names.{HasName, count_of}
use Rattle.mf_vault.specs.Facts.{file, number, stages}
use Rattle.mf_vault.specs.Actor.{Actor}
use Rattle.mf_vault.specs.Answers.{IsReached}

-- the slot is free; it is pinned
abbrev pub MayPin : Slot → Actor → Type 0
MayPin slot a = IsFreeSlot slot a.view

abbrev pub MayUnpin : Slot → Actor → Type 0
MayUnpin slot a = vacant < slot_of slot a.view

-- the actor hasn't the right; it has it
abbrev pub MayBegin : Actor → Type 0
MayBegin a = LacksRight a.view.build

abbrev pub MayEnd : Actor → Type 0
MayEnd a = HasRight a.view.build

-- m was looked at since the begin; next is m + 1, and each name of generation m was put, restored or answered Here or
-- Lost since; or next says that the file is removed
abbrev pub MayPublish : ℕ → Actor → Type 0
MayPublish next a = HasRight a.view.build × HasLooked a.view.build × ((m : ℕ) × LastLooked a.view.last m
    × (((next ≡ number_of m) × (next ≤ stages a.facts)
    × ((n : ℕ) → n < count_of a.facts.book → Holds (file a.facts) m n → Among n a.view.build.settled))
    ⊎ ((next ≡ removed (file a.facts)) × (1 ≤ m) × (m ≤ stages a.facts))))

-- a number above g + 1 was seen
abbrev pub MayClose : ℕ → Actor → Type 0
MayClose g a = (g < stages a.facts) × (number_of g < a.view.seen.number)

-- a pinned generation holds the name
abbrev pub MayGet : Name → Actor → Type 0
MayGet x a = HasName a.facts.book x × PinHolds (file a.facts) a.view.hold a.view.work (number a.facts x)

-- a pinned generation holds the name, or the next one does and the actor has the right
abbrev pub MayProbe : Name → Actor → Type 0
MayProbe x a = HasName a.facts.book x × (PinHolds (file a.facts) a.view.hold a.view.work (number a.facts x)
    ⊎ NextHolds (file a.facts) a.view.build a.view.last (number a.facts x))

-- the next generation holds the name, which was answered Unborn since the begin, and not put since; and its server can
-- be reached
abbrev pub MayPut : Name → Actor → Type 0
MayPut x a = HasName a.facts.book x × NextHolds (file a.facts) a.view.build a.view.last (number a.facts x)
    × Among (number a.facts x) a.view.build.unborn × IsReached a x

-- the Work pin's generation or the next one holds the name, which was answered Lost since the begin, and not restored
-- since; and its server can be reached
abbrev pub MayRestore : Name → Actor → Type 0
MayRestore x a = HasName a.facts.book x
    × WorkHolds (file a.facts) a.view.build a.view.last a.view.work (number a.facts x)
    × Among (number a.facts x) a.view.build.lost × IsReached a x

-- each generation that holds the name was answered Done or Already
abbrev pub MayDiscard : Name → Actor → Type 0
MayDiscard x a = HasName a.facts.book x × AllShown (file a.facts) a.view.own (number a.facts x)

-- there is a lose line of the name's server with this number
abbrev pub MayLose : Name → ℕ → Actor → Type 0
MayLose x l a = HasName a.facts.book x × IsLoseLine (file a.facts) (number a.facts x) l
