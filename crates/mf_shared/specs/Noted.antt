-- What the steps of a call met, by the note that the actor's view keeps of its last step. A give is counted, and leaves
-- what the step before it met.
use Rattle.std.specs.Prelude.{◌≡◌, ◌⊎◌, ℕ, ◌-◌, ◌<◌, Bool, true}
use Rattle.mf_machine.specs.declared.view.Step.{Step}
use Rattle.mf_machine.specs.declared.answer.State.{State}
use Rattle.mf_machine.specs.declared.answer.State.TheVariants as state
use Rattle.mf_machine.specs.Actors.{slot_of}
use Rattle.mf_machine.specs.File.{name_word, removed}
use Rattle.mf_machine.specs.Steps.{pin_answer, begin_answer, close_answer, drop_answer, drop_again_answer, lose_answer}
use Rattle.mf_machine.specs.Steps.{tries}
use Rattle.mf_machine.specs.Words as word
use Rattle.mf_machine.specs.Words.{number_word, right_word, pins_word, absent, IsLost}
use Rattle.mf_places.specs.declared.Name.{Name}
use Rattle.mf_vault.specs.declared.answers.Got.{Got}
use Rattle.mf_vault.specs.declared.answers.Got.TheVariants as got
use Rattle.mf_vault.specs.declared.answers.Pinned.{Pinned}
use Rattle.mf_vault.specs.declared.answers.Pinned.TheVariants.{At, Absent, Removed}
use Rattle.mf_vault.specs.Actor.{Actor, Call}
use Rattle.mf_vault.specs.Actor as call
use Rattle.mf_vault.specs.Answers.{IsState, IsGot, was_dropped, was_lost}
use Rattle.mf_vault.specs.Facts.{Facts, file, number}
use Rattle.mf_gate.specs.Passes.{view}
use Rattle.mf_shared.specs.declared.access.SharedAccess.{SharedAccess}

-- the note of the last step, and the number of steps so far
abbrev pub note_of : {R : Type 0} → SharedAccess R → Step
note_of s = (view s.pass).step

-- a step was made since the first note: it was on the word i, and P holds of the value that it met
pub record Meets (i : ℕ) (P : ℕ → Type 0) (before now : Step) : Type 0 where
  pub rose : before.count < now.count
  pub word : now.word ≡ i
  pub met : P now.met

-- whatever it met
abbrev pub Any : ℕ → Type 0
Any x = Unit {0}

-- it was on the word of the name
abbrev pub NameMeets : Facts → Name → (ℕ → Type 0) → Step → Step → Type 0
NameMeets f x P before now = Meets (name_word (file f) (number f x)) P before now

-- a pin that pinned nothing ends with its look
abbrev pub PinMeets : Facts → Pinned → Step → Step → Type 0
PinMeets f (At g) before now = Meets (pins_word g) (λ x. pin_answer x ≡ true) before now
PinMeets f Absent before now = Meets number_word (λ x. x ≡ absent) before now
PinMeets f Removed before now = Meets number_word (λ x. x ≡ removed (file f)) before now

-- Away comes without a step
abbrev pub StateMeets : Facts → Name → State → Step → Step → Type 0
StateMeets f x state.Unborn before now = NameMeets f x (IsState state.Unborn) before now
StateMeets f x state.Here before now = NameMeets f x (IsState state.Here) before now
StateMeets f x (state.Lost l) before now = NameMeets f x (IsState (state.Lost l)) before now
StateMeets f x (state.Away s) before now = now ≡ before

abbrev pub GotMeets : Facts → Name → Got → Step → Step → Type 0
GotMeets f x (got.Here c) before now = NameMeets f x (IsGot (got.Here c)) before now
GotMeets f x (got.Lost l) before now = NameMeets f x (IsGot (got.Lost l)) before now
GotMeets f x (got.Away s) before now = now ≡ before
GotMeets f x got.Memory before now = NameMeets f x (IsGot got.Memory) before now

-- the only try of a discard met y, or its second one, whose first one met a Lost name's word x
abbrev pub IsDiscarded : Bool → ℕ → Type 0
IsDiscarded b y = (b ≡ was_dropped (drop_answer y))
    ⊎ ((x : ℕ) × (drop_answer x ≡ tries) × (b ≡ drop_again_answer x y))

-- *What a step met*: since the first note the call made a step, and its answer is the row's to the value that the last
-- one met
abbrev pub CallMeets : Call → Actor → Step → Step → Type 0
CallMeets (call.cut_off s) a before now = now ≡ before
CallMeets (call.pin slot gs p) a before now = PinMeets a.facts p before now
CallMeets (call.unpin slot) a before now = Meets (pins_word (slot_of slot a.view - 1)) Any before now
CallMeets (call.begin b) a before now = Meets right_word (λ x. b ≡ begin_answer x) before now
CallMeets call.end a before now = Meets right_word Any before now
CallMeets (call.publish next) a before now = Meets number_word Any before now
CallMeets (call.probe x s) a before now = StateMeets a.facts x s before now
CallMeets (call.put x) a before now = NameMeets a.facts x (λ y. y ≡ word.unborn) before now
CallMeets (call.restore x) a before now = NameMeets a.facts x IsLost before now
CallMeets (call.close g c) a before now = Meets (pins_word g) (λ x. c ≡ close_answer x) before now
CallMeets (call.discard x b) a before now = NameMeets a.facts x (IsDiscarded b) before now
CallMeets (call.get x o) a before now = GotMeets a.facts x o before now
CallMeets (call.lose x l b) a before now = NameMeets a.facts x (λ y. was_lost b ≡ lose_answer y) before now
