-- What a move is answered, and how often an answer stands in a Met.
use Rattle.std.specs.Prelude.{ℕ, ◌+◌, ◌≤◌, ◌==◌, Bool, true, false, cond, List, [], ◌∷◌, Option, Some, None}
use Rattle.mf_machine.specs.declared.answer.Closed.{Closed}
use Rattle.mf_machine.specs.declared.answer.Closed.TheVariants as closing
use Rattle.mf_machine.specs.declared.answer.LoseStep.{LoseStep}
use Rattle.mf_machine.specs.declared.answer.LoseStep.TheVariants as lose
use Rattle.mf_machine.specs.declared.answer.State.{State as Told}
use Rattle.mf_machine.specs.declared.answer.State.TheVariants as told
use Rattle.mf_machine.specs.declared.view.Made.{Made}
use Rattle.mf_machine.specs.declared.view.Met.{Met}
use Rattle.mf_machine.specs.declared.view.Refusal.{Refusal}
use Rattle.mf_machine.specs.declared.view.Seen.{Seen}
use Rattle.mf_machine.specs.Actors.{Among, live}
use Rattle.mf_machine.specs.Counts.{bit, times, lines}
use Rattle.mf_machine.specs.File.{File, name_word}
use Rattle.mf_machine.specs.Moves.{Deed}
use Rattle.mf_machine.specs.Moves as move
use Rattle.mf_machine.specs.Steps.{Take, Drop, chunk, gone, again, nothing}
use Rattle.mf_machine.specs.Steps.{pin_answer, close_answer, begin_answer, see_answer, take_answer, lose_answer}
use Rattle.mf_machine.specs.Steps.{drop_answer, drop_again_answer}
use Rattle.mf_machine.specs.Words.{number_word, right_word, pins_word}
use Rattle.mf_machine.specs.Worlds.{World, word_of, actor}

-- an answer: a published number looked at, or published; a begin, true and false; a pin, true and false; a close, Done,
-- Already and Pins, with the pins met and the actor's own; what a get or a probe told of a name; a name put, restored,
-- lost and dropped; a lose and a discard answered Nothing
pub data Answer : Type 0 where
  number : ℕ → Answer
  begun : Answer
  refused : Answer
  opened : ℕ → Answer
  missed : ℕ → Answer
  closed : ℕ → Answer
  already : ℕ → Answer
  pinned : (g pins own : ℕ) → Answer
  unborn : ℕ → Answer
  here : ℕ → Answer
  lost : (n line : ℕ) → Answer
  put : ℕ → Answer
  restored : ℕ → Answer
  made_lost : (n line : ℕ) → Answer
  dropped : ℕ → Answer
  not_lost : ℕ → Answer
  not_dropped : ℕ → Answer

-- how often a close of g was refused by so many pins, of which so many were its actor's
abbrev pub refusals : (g pins own : ℕ) → List Refusal → ℕ
refusals g pins own [] = 0
refusals g pins own (x ∷ xs) = cond (x.generation == g) (cond (x.pins == pins) (bit x.own own) 0) 0
    + refusals g pins own xs

-- how often the answer stands in a Met
abbrev pub often : Answer → Met → ℕ
often (number n) m = times n m.numbers
often begun m = m.begun
often refused m = m.refused
often (opened g) m = times g m.opened
often (missed g) m = times g m.missed
often (closed g) m = times g m.closed
often (already g) m = times g m.already
often (pinned g pins own) m = refusals g pins own m.pinned
often (unborn n) m = times n m.unborn
often (here n) m = times n m.here
often (lost n line) m = lines n line m.lost
often (put n) m = times n m.put
often (restored n) m = times n m.restored
often (made_lost n line) m = lines n line m.made_lost
often (dropped n) m = times n m.dropped
often (not_lost n) m = times n m.not_lost
often (not_dropped n) m = times n m.not_dropped

-- how often a Made has the change that the answer tells of
abbrev pub makes : Answer → Made → ℕ
makes (number n) m = times n m.numbers
makes (closed g) m = times g m.closings
makes (put n) m = times n m.changes.put
makes (restored n) m = times n m.changes.restored
makes (made_lost n line) m = lines n line m.changes.lost
makes (dropped n) m = times n m.changes.dropped
makes a m = 0

-- the answer tells of a closing, or of a change of a name
abbrev pub IsChange : Answer → Type 0
IsChange (closed g) = Unit {0}
IsChange (put n) = Unit {0}
IsChange (restored n) = Unit {0}
IsChange (made_lost n line) = Unit {0}
IsChange (dropped n) = Unit {0}
IsChange a = ⊥

-- Seen has what the answer shows: a number that isn't greater; a generation closed; a name that isn't Unborn, or is
-- Dropped
abbrev pub Shows : Answer → Seen → Type 0
Shows (number n) s = n ≤ s.number
Shows (missed g) s = Among g s.shut
Shows (closed g) s = Among g s.shut
Shows (already g) s = Among g s.shut
Shows (here n) s = Among n s.born
Shows (lost n line) s = Among n s.born
Shows (put n) s = Among n s.born
Shows (restored n) s = Among n s.born
Shows (dropped n) s = Among n s.dropped
Shows a s = Unit {0}

-- each step's answer, as it is entered
abbrev pub pin_said : Bool → ℕ → Answer
pin_said true g = opened g
pin_said false g = missed g

-- the answer of a close, with the pins of its own on g
abbrev pub close_said : Closed → (g own : ℕ) → Answer
close_said closing.Done g own = closed g
close_said (closing.Pins n) g own = pinned g n own
close_said closing.Already g own = already g

-- the answer of a begin
abbrev pub begin_said : Bool → Answer
begin_said true = begun
begin_said false = refused

-- the answer of a see; Away is none
abbrev pub see_said : Told → ℕ → Option Answer
see_said told.Unborn n = Some (unborn n)
see_said told.Here n = Some (here n)
see_said (told.Lost line) n = Some (lost n line)
see_said (told.Away server) n = None

-- the answer of a take; Again is none
abbrev pub take_said : Take → ℕ → Option Answer
take_said chunk n = Some (here n)
take_said (gone line) n = Some (lost n line)
take_said again n = None

-- the answer of a lose, where nothing changes
abbrev pub lose_said : LoseStep → ℕ → Option Answer
lose_said lose.Nothing n = Some (not_lost n)
lose_said a n = None

-- the answer of the first try of a drop, where nothing changes
abbrev pub drop_said : Drop → ℕ → Option Answer
drop_said nothing n = Some (not_dropped n)
drop_said a n = None

-- the answer of the second try
abbrev pub drop_again_said : Bool → ℕ → Answer
drop_again_said true n = dropped n
drop_again_said false n = not_dropped n

-- the answer of a move, by what its word was. A birth, retake, lose or drop that changes the name is answered by its
-- return. A take that met Taken, a turn, a give, an end, an unpin, an exchange, a split and a join are answered nothing
abbrev pub said : File → World → ℕ → Deed → Option Answer
said f w id move.look = Some (number (word_of w number_word))
said f w id (move.pin slot g) = Some (pin_said (pin_answer (word_of w (pins_word g))) g)
said f w id (move.close g) = Some (close_said (close_answer (word_of w (pins_word g))) g (live g (actor w id)))
said f w id move.begin = Some (begin_said (begin_answer (word_of w right_word)))
said f w id (move.publish next) = Some (number next)
said f w id (move.see n) = see_said (see_answer (word_of w (name_word f n))) n
said f w id (move.take n) = take_said (take_answer (word_of w (name_word f n))) n
said f w id (move.born n) = Some (put n)
said f w id (move.restored n) = Some (restored n)
said f w id (move.lose n line) = lose_said (lose_answer (word_of w (name_word f n))) n
said f w id (move.lost n line) = Some (made_lost n line)
said f w id (move.drop n) = drop_said (drop_answer (word_of w (name_word f n))) n
said f w id (move.drop_again n) =
    Some (drop_again_said (drop_again_answer (actor w id).inside.tried (word_of w (name_word f n))) n)
said f w id (move.dropped n) = Some (dropped n)
said f w id d = None
