-- No guard is too strong: a run in which each step is made and each answer given. No clause of the rules is idle: for
-- each a state that meets the other clauses of its rule, and not the rule (those of *Accounted* stand in `Clauses`).
use Rattle.std.specs.Prelude.{◌≡◌, ◌≢◌, ℕ, ◌<◌, true, false, List, ◌∷◌, ◌++◌, length}
use Rattle.mf_machine.specs.declared.answer.Closed.TheVariants as closing
use Rattle.mf_machine.specs.declared.answer.LoseStep.TheVariants as losing
use Rattle.mf_machine.specs.declared.answer.Slot.TheVariants.{Hold, Work}
use Rattle.mf_machine.specs.declared.answer.State.TheVariants as told
use Rattle.mf_machine.specs.declared.view.Met.{Met}
use Rattle.mf_machine.specs.declared.view.View.{View}
use Rattle.mf_machine.specs.Answers as answer
use Rattle.mf_machine.specs.Answers.{Answer, pinned, often}
use Rattle.mf_machine.specs.Actors.{live, IsFreeSlot, IsPinnedOn, NextHolds}
use Rattle.mf_machine.specs.File.{File, Home, Opening, State, name_word, removed}
use Rattle.mf_machine.specs.Kept.{IsInside, Number, NumberTop, NumberSeen, NumberHeld, Pins, ClosedPassed, ClosedBare}
use Rattle.mf_machine.specs.Kept.{PinnedIs, PinnedOpen, PinnedSeen, Born, BornPublished, BornSeen, Seen, SeenClosed}
use Rattle.mf_machine.specs.Kept.{SeenBorn, SeenDropped, Builder, UnbornToBuilder, LostToBuilder, Dropped}
use Rattle.mf_machine.specs.Kept.{DroppedClosed, DroppingClosed, Losses, Cells, HereIsCell, TakenBySome, TakenByOne}
use Rattle.mf_machine.specs.Kept.{TakenIsName, TakenIsTaken, TakenIsHeld, AnswerCaused, RightBegun, PinOpened, Caused}
use Rattle.mf_machine.specs.Laws.{IsLast}
use Rattle.mf_machine.specs.Moves.{Move, Deed, look, pin, unpin, close, begin, end, publish, see, take, give, birth}
use Rattle.mf_machine.specs.Moves.{born, lose, lost, retake, restored, drop, drop_again, dropped, exchange, split, join}
use Rattle.mf_machine.specs.Moves.{by, after, Runs, run}
use Rattle.mf_machine.specs.Rest.{Rest}
use Rattle.mf_machine.specs.Steps.{pin_answer, close_answer, begin_answer, see_answer, take_answer, chunk, gone, again}
use Rattle.mf_machine.specs.Steps.{lose_answer, drop_answer, drops, tries, nothing, drop_again_answer}
use Rattle.mf_machine.specs.Words as word
use Rattle.mf_machine.specs.Words.{pins_word, right_word, number_of, filled}
use Rattle.mf_machine.specs.Worlds.{World, Opens, read, word_of, actor}

-- somewhere in the run, P holds of the world, of the actor and of what it does next
pub record Occurs (P : World → ℕ → Deed → Type 0) (f : File) (w : World) (ms : List Move) : Type 0 where
  pub before : List Move
  pub next : Move
  pub later : List Move
  pub are : ms ≡ before ++ next ∷ later
  pub so : P (run f w before) next.who next.does

-- somewhere the deed is done about some n
abbrev pub Done : (ℕ → Deed) → File → World → List Move → Type 0
Done deed f w ms = Occurs (λ s id d. (n : ℕ) × (d ≡ deed n)) f w ms

-- somewhere the deed is done about some n, and its answer to what it meets in the word of n is a
abbrev pub Answered : {A : Type 0} → (ℕ → Deed) → (ℕ → ℕ) → (ℕ → A) → A → File → World → List Move → Type 0
Answered deed place answer a f w ms =
    Occurs (λ s id d. (n : ℕ) × (d ≡ deed n) × (answer (word_of s (place n)) ≡ a)) f w ms

-- each list of the Met has an entry
pub record Full (m : Met) : Type 0 where
  pub gate : (0 < length m.numbers) × (0 < m.begun) × (0 < m.refused) × (0 < length m.opened) × (0 < length m.missed)
      × (0 < length m.closed) × (0 < length m.already) × (0 < length m.pinned)
  pub told : (0 < length m.unborn) × (0 < length m.here) × (0 < length m.lost)
  pub changed : (0 < length m.put) × (0 < length m.restored) × (0 < length m.made_lost) × (0 < length m.dropped)
  pub nothing : (0 < length m.not_lost) × (0 < length m.not_dropped)

-- what occurs in the run
pub record Exhibits (f : File) (w : World) (ms : List Move) : Type 0 where
  -- both slots of an actor pinned at once, and a pin on a closed generation
  pub slots : Occurs (λ s id d. (g h : ℕ) × IsPinnedOn g Hold (actor s id) × IsPinnedOn h Work (actor s id)) f w ms
  pub pin_true : Answered (pin Hold) pins_word pin_answer true f w ms
  pub pin_false : Answered (pin Work) pins_word pin_answer false f w ms
  pub unpinned : Done (unpin Hold) f w ms × Done (unpin Work) f w ms
  -- a close of a generation without pins, one that met another's pins, and one of a closed generation
  pub close_done : Answered close pins_word close_answer closing.Done f w ms
  -- the own pins noted beside the second are fewer than those that it met
  pub close_pins : Occurs (λ s id d. (g n own : ℕ) × (d ≡ close g)
      × (close_answer (word_of s (pins_word g)) ≡ closing.Pins n) × (live g (actor s id) ≡ own) × (own < n)
      × (0 < often (pinned g n own) (actor (after f s (by id d)) id).own)) f w ms
  pub close_already : Answered close pins_word close_answer closing.Already f w ms
  -- the right refused and given back, a look, a generation published, and the file removed
  pub begin_false : Occurs (λ s id d. (d ≡ begin) × (begin_answer (word_of s right_word) ≡ false)) f w ms
  pub ended : Occurs (λ s id d. d ≡ end) f w ms
  pub looked : Occurs (λ s id d. d ≡ look) f w ms
  pub publishes : Occurs (λ s id d. (g : ℕ) × (g < f.stages) × (d ≡ publish (number_of g))) f w ms
  pub removes : Occurs (λ s id d. d ≡ publish (removed f)) f w ms
  -- a see told Unborn, Lost, and Here, the latter while another actor is inside of the very name
  pub see_unborn : Answered see (name_word f) see_answer told.Unborn f w ms
  pub see_lost : Occurs (λ s id d. (n l : ℕ) × (d ≡ see n)
      × (see_answer (word_of s (name_word f n)) ≡ told.Lost l)) f w ms
  pub between : Occurs (λ s id d. (n j : ℕ) × (d ≡ see n) × (see_answer (word_of s (name_word f n)) ≡ told.Here)
      × (j ≢ id) × IsInside (actor s j) n) f w ms
  -- a take with the chunk, Lost and Again, and a give
  pub take_chunk : Answered take (name_word f) take_answer chunk f w ms
  pub take_lost : Occurs (λ s id d. (n l : ℕ) × (d ≡ take n)
      × (take_answer (word_of s (name_word f n)) ≡ gone l)) f w ms
  pub take_again : Answered take (name_word f) take_answer again f w ms
  pub gives : Done give f w ms
  pub births : Done birth f w ms
  -- a birth, while another actor makes a step; and a retake by the Work pin alone, and one by the next generation alone
  pub in_birth : Occurs (λ s id d. (n j : ℕ) × (d ≡ look) × (j ≢ id) × ((actor s j).inside.bearing ≡ filled n)) f w ms
  pub by_work : Occurs (λ s id d. (n : ℕ) × (d ≡ retake n)
      × (NextHolds f (actor s id).build (actor s id).last n → ⊥)) f w ms
  pub by_next : Occurs (λ s id d. (n : ℕ) × (d ≡ retake n) × IsFreeSlot Work (actor s id)) f w ms
  -- a lose answered Done, Nothing and Again
  pub lose_done : Occurs (λ s id d. (n l : ℕ) × (d ≡ lose n l)
      × (lose_answer (word_of s (name_word f n)) ≡ losing.Done)) f w ms
  pub lose_nothing : Occurs (λ s id d. (n l : ℕ) × (d ≡ lose n l)
      × (lose_answer (word_of s (name_word f n)) ≡ losing.Nothing)) f w ms
  pub lose_again : Occurs (λ s id d. (n l : ℕ) × (d ≡ lose n l)
      × (lose_answer (word_of s (name_word f n)) ≡ losing.Again)) f w ms
  -- a drop from Here, one from Lost, one that met nothing to drop, and a second try that failed
  pub drop_here : Answered drop (name_word f) drop_answer drops f w ms
  pub drop_lost : Answered drop (name_word f) drop_answer tries f w ms
  pub drop_nothing : Answered drop (name_word f) drop_answer nothing f w ms
  pub again_true : Occurs (λ s id d. (n : ℕ) × (d ≡ drop_again n)
      × (drop_again_answer (actor s id).inside.tried (word_of s (name_word f n)) ≡ true)) f w ms
  pub again_false : Occurs (λ s id d. (n : ℕ) × (d ≡ drop_again n)
      × (drop_again_answer (actor s id).inside.tried (word_of s (name_word f n)) ≡ false)) f w ms
  -- the four returns, an exchange, a split and a join
  pub returns : Done born f w ms × Done restored f w ms × Done dropped f w ms
      × Occurs (λ s id d. (n l : ℕ) × (d ≡ lost n l)) f w ms
  pub others : Occurs (λ s id d. (h : Home) × (d ≡ exchange h)) f w ms × Occurs (λ s id d. d ≡ split) f w ms
      × Done join f w ms
  -- at the end one actor is left, with the whole share; it took in another, and its own Met has each kind of answer;
  -- some name is Here, and some is Dropped
  pub last : (v : View) × IsLast (read f (run f w ms)) 0 v × Full v.own × (0 < length v.gone)
  pub names : ((n : ℕ) × (n < f.names) × ((read f (run f w ms)).name n ≡ word.here))
      × ((n : ℕ) × (n < f.names) × ((read f (run f w ms)).name n ≡ word.dropped))

-- some run in which all this occurs
abbrev pub SomeRun : Type 0
SomeRun = (f : File) × (k : Opening) × (first : World) × (ms : List Move)
    × Rest f k × Opens f k first × Runs f first ms × Exhibits f first ms

-- some state breaks the clause
abbrev pub Breaks : (File → Opening → State → Type 0) → Type 0
Breaks clause = (f : File) × (k : Opening) × (s : State) × Rest f k × (clause f k s → ⊥)

-- a clause of a rule isn't idle: some state meets the others of the rule, and not the rule
abbrev pub Needs : (rule others : File → Opening → State → Type 0) → Type 0
Needs rule others = (f : File) × (k : Opening) × (s : State) × Rest f k × others f k s × (rule f k s → ⊥)

-- no clause of *Number* is idle
pub record NumberNeeds : Type 0 where
  pub top : Needs (λ f k s. Number f s) (λ f k s. NumberSeen s × NumberHeld s)
  pub seen : Needs (λ f k s. Number f s) (λ f k s. NumberTop f s × NumberHeld s)
  pub holder : Needs (λ f k s. Number f s) (λ f k s. NumberTop f s × NumberSeen s)

-- nor of *Pins*; that no pin is on a closed generation is one clause said twice
pub record PinsNeed : Type 0 where
  pub passed : Needs (λ f k s. Pins f s)
      (λ f k s. ClosedBare f s × PinnedIs f s × PinnedOpen s × PinnedSeen s)
  pub bare : Needs (λ f k s. Pins f s) (λ f k s. ClosedPassed f s × PinnedIs f s × PinnedSeen s)
  pub stage : Needs (λ f k s. Pins f s)
      (λ f k s. ClosedPassed f s × ClosedBare f s × PinnedOpen s × PinnedSeen s)
  pub seen : Needs (λ f k s. Pins f s)
      (λ f k s. ClosedPassed f s × ClosedBare f s × PinnedIs f s × PinnedOpen s)

-- nor of *Born*
pub record BornNeeds : Type 0 where
  pub published : Needs (λ f k s. Born f s) (λ f k s. BornSeen f s)
  pub seen : Needs (λ f k s. Born f s) (λ f k s. BornPublished f s)

-- nor of *Seen*
pub record SeenNeeds : Type 0 where
  pub closed : Needs (λ f k s. Seen f s) (λ f k s. SeenBorn s × SeenDropped s)
  pub born : Needs (λ f k s. Seen f s) (λ f k s. SeenClosed f s × SeenDropped s)
  pub dropped : Needs (λ f k s. Seen f s) (λ f k s. SeenClosed f s × SeenBorn s)

-- nor of *Builder*
pub record BuilderNeeds : Type 0 where
  pub unborn : Needs (λ f k s. Builder f s) (λ f k s. LostToBuilder s)
  pub lost : Needs (λ f k s. Builder f s) (λ f k s. UnbornToBuilder s)

-- nor of *Dropped*
pub record DroppedNeeds : Type 0 where
  pub done : Needs (λ f k s. Dropped f s) (λ f k s. DroppingClosed f s)
  pub doing : Needs (λ f k s. Dropped f s) (λ f k s. DroppedClosed f s)

-- nor of *Cells*
pub record CellsNeed : Type 0 where
  pub here : Needs (λ f k s. Cells f s)
      (λ f k s. TakenBySome f s × TakenByOne s × TakenIsName f s × TakenIsTaken s × TakenIsHeld f s)
  pub taken : Needs (λ f k s. Cells f s)
      (λ f k s. HereIsCell f s × TakenByOne s × TakenIsName f s × TakenIsTaken s × TakenIsHeld f s)
  pub one : Needs (λ f k s. Cells f s)
      (λ f k s. HereIsCell f s × TakenBySome f s × TakenIsName f s × TakenIsTaken s × TakenIsHeld f s)
  pub named : Needs (λ f k s. Cells f s)
      (λ f k s. HereIsCell f s × TakenBySome f s × TakenByOne s × TakenIsTaken s × TakenIsHeld f s)
  pub marked : Needs (λ f k s. Cells f s)
      (λ f k s. HereIsCell f s × TakenBySome f s × TakenByOne s × TakenIsName f s × TakenIsHeld f s)
  pub held : Needs (λ f k s. Cells f s)
      (λ f k s. HereIsCell f s × TakenBySome f s × TakenByOne s × TakenIsName f s × TakenIsTaken s)

-- no clause of the first eight rules is idle
pub record EachNeeds : Type 0 where
  pub number : NumberNeeds
  pub pins : PinsNeed
  pub born : BornNeeds
  pub seen : SeenNeeds
  pub builder : BuilderNeeds
  pub dropped : DroppedNeeds
  pub losses : Breaks (λ f k s. Losses f s)
  pub cells : CellsNeed

-- each answer but this one has its cause
abbrev pub OthersCaused : Opening → State → Answer → Type 0
OthersCaused k s a = (b : Answer) → b ≢ a → AnswerCaused k s b

-- the cause of this answer isn't idle: some state meets the other clauses of *Caused*, and not the rule
abbrev pub Uncaused : Answer → Type 0
Uncaused a = Needs (λ f k s. Caused k s) (λ f k s. OthersCaused k s a × RightBegun s × PinOpened s)

-- no clause of *Caused* is idle
pub record CausedNeeds : Type 0 where
  pub gate : Uncaused (answer.number 1) × Uncaused answer.refused × Uncaused (answer.missed 0)
      × Uncaused (answer.already 0) × Uncaused (answer.pinned 0 1 0)
  pub told : Uncaused (answer.unborn 0) × Uncaused (answer.here 0) × Uncaused (answer.lost 0 7)
  pub nothing : Uncaused (answer.not_lost 0) × Uncaused (answer.not_dropped 0)
  pub right : Needs (λ f k s. Caused k s) (λ f k s. ((a : Answer) → AnswerCaused k s a) × PinOpened s)
  pub pin : Needs (λ f k s. Caused k s) (λ f k s. ((a : Answer) → AnswerCaused k s a) × RightBegun s)
