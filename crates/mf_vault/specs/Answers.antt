-- What is promised of the answer of each call: of any actor, and of one that is alone.
use Rattle.std.specs.Prelude.{◌≡◌, ℕ, ◌<◌, ◌≤◌, Bool, true, false, List, [], ◌∷◌, IfSome}
use Rattle.mf_machine.specs.declared.view.View.{View}
use Rattle.mf_machine.specs.Actors.{PinHolds, live}
use Rattle.mf_machine.specs.declared.answer.Closed.{Closed}
use Rattle.mf_machine.specs.declared.answer.Closed.TheVariants as closed
use Rattle.mf_machine.specs.declared.answer.LoseStep.{LoseStep}
use Rattle.mf_machine.specs.declared.answer.LoseStep.TheVariants as losing
use Rattle.mf_machine.specs.declared.answer.State.{State}
use Rattle.mf_machine.specs.declared.answer.State.TheVariants as state
use Rattle.mf_machine.specs.File.{IsLoseLine, removed}
use Rattle.mf_machine.specs.Steps as step
use Rattle.mf_machine.specs.Steps.{begin_answer, see_answer, take_answer, close_answer, drop_answer, lose_answer}
use Rattle.mf_machine.specs.Words.{number_word, right_word, pins_word, number_of, absent, removed_of}
use Rattle.mf_machine.specs.Worlds.{World, word_of}
use Rattle.mf_places.specs.declared.Name.{Name}
use Rattle.mf_places.specs.Servers.{IsIn}
use Rattle.mf_vault.specs.declared.answers.Got.{Got}
use Rattle.mf_vault.specs.declared.answers.Got.TheVariants as got
use Rattle.mf_vault.specs.declared.answers.Pinned.{Pinned}
use Rattle.mf_vault.specs.declared.answers.Pinned.TheVariants.{At, Absent, Removed}
use Rattle.mf_vault.specs.Facts.{Facts, file, number, server, stages, cell_of}
use Rattle.mf_vault.specs.Actor.{Actor, Call, cut_off, pin, unpin, begin, end, publish, probe, put, restore, close}
use Rattle.mf_vault.specs.Actor.{discard, get, lose, did, word_at}

-- the server of the name is cut off
abbrev pub IsCut : Actor → Name → Type 0
IsCut a x = IsIn a.cut (server a.facts x)

-- ---- of any actor

-- the server can't be reached exactly where it is the name's and is cut off
abbrev pub IsAway : Actor → Name → ℕ → Type 0
IsAway a x s = IsCut a x × (s ≡ server a.facts x)

abbrev pub IsReached : Actor → Name → Type 0
IsReached a x = IsCut a x → ⊥

-- Lost tells a lose line of the name's server
abbrev pub IsLostBy : Actor → Name → ℕ → Type 0
IsLostBy a x l = IsReached a x × IsLoseLine (file a.facts) (number a.facts x) l

-- a pinned generation is a stage, and the number looked at isn't below what was seen
abbrev pub IsPin : Facts → Pinned → View → Type 0
IsPin f (At g) v = (g < stages f) × (v.seen.number ≤ number_of g)
IsPin f Absent v = v.seen.number ≡ absent
IsPin f Removed v = v.seen.number ≤ removed (file f)

-- the published numbers that a pin looks at never fall, from what was seen to the one that it fell on; each that it
-- missed is a stage's
abbrev pub LooksRise : Facts → List ℕ → Pinned → View → Type 0
LooksRise f [] p v = IsPin f p v
LooksRise f (g ∷ missed) p v = (g < stages f) × (v.seen.number ≤ number_of g)
    × LooksRise f missed p (step.missed g (step.looked (number_of g) v))

-- Unborn never comes for a name of a pinned generation
abbrev pub FairState : Actor → Name → State → Type 0
FairState a x state.Unborn = IsReached a x × (PinHolds (file a.facts) a.view.hold a.view.work (number a.facts x) → ⊥)
FairState a x state.Here = IsReached a x
FairState a x (state.Lost l) = IsLostBy a x l
FairState a x (state.Away s) = IsAway a x s

-- a chunk is the name's cell
abbrev pub FairGot : Actor → Name → Got → Type 0
FairGot a x (got.Here c) = IsReached a x × (c ≡ cell_of a.facts x)
FairGot a x (got.Lost l) = IsLostBy a x l
FairGot a x (got.Away s) = IsAway a x s
FairGot a x got.Memory = IsReached a x

-- a generation is closed, or was, only where the actor has no pin on it; its own pins are among those that are met
abbrev pub FairClose : ℕ → Closed → View → Type 0
FairClose g closed.Done v = live g v ≡ 0
FairClose g (closed.Pins n) v = (0 < n) × (live g v ≤ n)
FairClose g closed.Already v = live g v ≡ 0

abbrev pub IsFair : Call → Actor → Type 0
IsFair (cut_off s) a = Unit {0}
IsFair (pin slot gs p) a = LooksRise a.facts gs p a.view
IsFair (unpin slot) a = Unit {0}
IsFair (begin b) a = Unit {0}
IsFair end a = Unit {0}
IsFair (publish next) a = a.view.seen.number < next
IsFair (probe x s) a = FairState a x s
IsFair (put x) a = Unit {0}
IsFair (restore x) a = Unit {0}
IsFair (close g c) a = FairClose g c a.view
IsFair (discard x b) a = Unit {0}
IsFair (get x o) a = FairGot a x o
IsFair (lose x l b) a = Unit {0}

-- ---- of an actor that is alone: the answer is the row's in the whole state

abbrev pub IsNumber : ℕ → Pinned → ℕ → Type 0
IsNumber q (At g) x = (x ≡ number_of g) × (g < q)
IsNumber q Absent x = x ≡ absent
IsNumber q Removed x = x ≡ removed_of q

-- Away comes without a step
abbrev pub IsState : State → ℕ → Type 0
IsState state.Unborn x = see_answer x ≡ state.Unborn
IsState state.Here x = see_answer x ≡ state.Here
IsState (state.Lost l) x = see_answer x ≡ state.Lost l
IsState (state.Away s) x = Unit {0}

abbrev pub IsGot : Got → ℕ → Type 0
IsGot (got.Here c) x = take_answer x ≡ step.chunk
IsGot (got.Lost l) x = take_answer x ≡ step.gone l
IsGot (got.Away s) x = Unit {0}
IsGot got.Memory x = take_answer x ≡ step.chunk

abbrev pub was_dropped : step.Drop → Bool
was_dropped step.drops = true
was_dropped step.tries = true
was_dropped step.nothing = false

abbrev pub was_lost : Bool → LoseStep
was_lost true = losing.Done
was_lost false = losing.Nothing

abbrev pub IsAnswer : Facts → Call → World → Type 0
IsAnswer f (cut_off s) w = Unit {0}
IsAnswer f (pin slot gs p) w = (gs ≡ []) × IsNumber (stages f) p (word_of w number_word)
IsAnswer f (unpin slot) w = Unit {0}
IsAnswer f (begin b) w = b ≡ begin_answer (word_of w right_word)
IsAnswer f end w = Unit {0}
IsAnswer f (publish next) w = Unit {0}
IsAnswer f (probe x s) w = IsState s (word_at f w x)
IsAnswer f (put x) w = Unit {0}
IsAnswer f (restore x) w = Unit {0}
IsAnswer f (close g c) w = c ≡ close_answer (word_of w (pins_word g))
IsAnswer f (discard x b) w = b ≡ was_dropped (drop_answer (word_at f w x))
IsAnswer f (get x o) w = IsGot o (word_at f w x)
IsAnswer f (lose x l b) w = was_lost b ≡ lose_answer (word_at f w x)

abbrev pub IsTold : Call → Actor → Type 0
IsTold c a = IfSome a.whole (IsAnswer a.facts c)

-- ---- a call, with its answer, leads from one actor to the other
pub record Goes (c : Call) (a b : Actor) : Type 0 where
  pub becomes : b ≡ did c a
  pub fair : IsFair c a
  pub told : IsTold c a
