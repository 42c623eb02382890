-- What is promised of every list of moves from a file at rest.
use Rattle.std.specs.Prelude.{◌≡◌, ◌≢◌, ◌⊎◌, ◌↔◌, ℕ, ◌+◌, ◌/◌, ◌<◌, ◌≤◌, leb, true, Option, Some}
use Rattle.std.specs.Prelude.{List, [], ◌∷◌, ◌++◌, length, slice_set}
use mathlib.Core.Option.{some}
use lib.ListN.{get_elem?}
use Rattle.mf_machine.specs.declared.view.Made.{Made}
use Rattle.mf_machine.specs.declared.view.Met.{Met}
use Rattle.mf_machine.specs.declared.view.Seen.{Seen}
use Rattle.mf_machine.specs.declared.view.Step.{Step}
use Rattle.mf_machine.specs.declared.view.View.{View}
use Rattle.mf_machine.specs.declared.answer.Slot.TheVariants.{Hold, Work}
use Rattle.mf_machine.specs.Actors.{Among, LacksRight, IsFreeSlot, Active, live, Free}
use Rattle.mf_machine.specs.Answers.{Answer, number, missed, already, pinned, lost, often, makes, IsChange, Shows, said}
use Rattle.mf_machine.specs.Counts.{times, losses, lines, total, all_begun, all_opened}
use Rattle.mf_machine.specs.File.{File, Line, Opening, State, Holds, IsLoseLine, HasCell, name_word, removed}
use Rattle.mf_machine.specs.Kept.{HasTaken, IsActor, IsClosed, IsMetOf, Caused, Kept}
use Rattle.mf_machine.specs.Moves.{Move, Deed, by, May, after, Reached}
use Rattle.mf_machine.specs.Rest.{Rest}
use Rattle.mf_machine.specs.Ruled.{Ruled}
use Rattle.mf_machine.specs.Steps.{old_half, new_half, joined}
use Rattle.mf_machine.specs.Sums.{publishings, closings, loses_by, begun_of, opened_of, lost_bit}
use Rattle.mf_machine.specs.Words as word
use Rattle.mf_machine.specs.Words.{whole_share, number_word, right_word, pins_word, closed_bit, absent, IsLost}
use Rattle.mf_machine.specs.Worlds.{World, actor, word_of, read, Opens, nothing_made, nothing_met, spent_view}
use Rattle.mf_machine.specs.File.Home.{empty}
use Rattle.mf_machine.specs.Moves as move

-- the law: the ten rules hold in every reached state, and so does the rule as sums, from which they follow
abbrev pub Law : Type 0
Law = (f : File) (k : Opening) (w : World) → Reached f k w → Kept f k (read f w) × Ruled f k (read f w)

-- a name of a pinned generation is Here with its cell, Taken or Lost, and never Unborn or Dropped
abbrev pub Stays : File → State → ℕ → Type 0
Stays f s n = ((s.name n ≡ word.here) ⊎ ((s.name n ≡ word.taken) ⊎ IsLost (s.name n)))
    × (s.name n ≢ word.unborn) × (s.name n ≢ word.dropped) × (s.name n ≡ word.here → HasCell f n (s.home n))

-- so it is of each name of each pinned generation
abbrev pub PinnedStays : Type 0
PinnedStays = (f : File) (k : Opening) (w : World) → Reached f k w → (j : ℕ) (v : View) → IsActor (read f w) j v
    → (g : ℕ) → 0 < live g v → (n : ℕ) → n < f.names → Holds f g n → Stays f (read f w) n

-- and so it is in each state that keeps the rule as sums, which is what a table of the file's words keeps
abbrev pub RuleHolds : Type 0
RuleHolds = (f : File) (k : Opening) (s : State) → Rest f k → Ruled f k s → Kept f k s
    × ((j : ℕ) (v : View) → IsActor s j v → (g : ℕ) → 0 < live g v → (n : ℕ) → n < f.names → Holds f g n → Stays f s n)

-- the last actor: it has the whole share again, and no pin, no right and no name Taken
abbrev pub IsLast : State → ℕ → View → Type 0
IsLast s j v = IsActor s j v × (v.share ≡ whole_share)
    × IsFreeSlot Hold v × IsFreeSlot Work v × LacksRight v.build × Free v

-- what rests of a state without its actors
abbrev pub resting : State → Opening
resting s = record { number = s.number; closed = λ g. leb closed_bit (s.pins g); name = s.name; home = s.home }

-- *Rest* is what the rules say of a state with no pin, no right and no name Taken: with its first actor a resting file
-- keeps the rules, and a state that keeps them, with no name Taken and nothing in the slots of names that aren't Here,
-- rests
pub record RestIsKept : Type 0 where
  pub begins : (f : File) (k : Opening) (w : World) → Rest f k → Opens f k w → Kept f k (read f w)
  pub ends : (f : File) (k : Opening) (s : State) → Kept f k s → ((n : ℕ) → n < f.names → s.name n ≢ word.taken)
      → ((n : ℕ) → n < f.names → s.name n ≢ word.here → s.home n ≡ empty) → Rest f (resting s)

-- what the first one has seen and made, the second one has too
pub record GoesOn (s s' : Seen) (m m' : Made) : Type 0 where
  pub number : s.number ≤ s'.number
  pub shut : (g : ℕ) → times g s.shut ≤ times g s'.shut
  pub born : (n : ℕ) → times n s.born ≤ times n s'.born
  pub dropped : (n : ℕ) → times n s.dropped ≤ times n s'.dropped
  pub made : (a : Answer) → makes a m ≤ makes a m'

-- the same of two views
abbrev pub Has : (v u : View) → Type 0
Has v u = GoesOn v.seen u.seen v.made u.made

-- what an actor has seen and made only grows: after a move it has it still; or the move is a join that took it in, and
-- the staying actor has it
abbrev pub OnlyGrows : Type 0
OnlyGrows = (f : File) (k : Opening) (w : World) (m : Move) → Reached f k w → May f w m
    → (j : ℕ) (v : View) → IsActor (read f w) j v
    → ((u : View) × IsActor (read f (after f w m)) j u × Has v u)
    ⊎ ((i : ℕ) × (m ≡ by i (move.join j)) × ((u : View) × IsActor (read f (after f w m)) i u × Has v u))

-- the note of a step on the word i: one step more, this word, and the value that stood there before the step
abbrev pub Meets : World → ℕ → Step → Step → Type 0
Meets w i a b = (b.count ≡ a.count + 1) × (b.word ≡ i) × (b.met ≡ word_of w i)

-- a give is a step that meets nothing new: it counts, and leaves what the last step before it met
abbrev pub CountsOne : Step → Step → Type 0
CountsOne a b = (b.count ≡ a.count + 1) × (b.word ≡ a.word) × (b.met ≡ a.met)

-- what the actor of a move notes by it, before and after: each of the fourteen kinds of step counts once, and notes its
-- word with the value met; so does the second try of a drop. The return of a birth, lose, retake or drop was counted
-- with its turn, and so it notes nothing, and neither do an exchange, a split and a join
abbrev pub Notes : File → World → Deed → Step → Step → Type 0
Notes f w move.look a b = Meets w number_word a b
Notes f w (move.pin slot g) a b = Meets w (pins_word g) a b
Notes f w (move.unpin slot g) a b = Meets w (pins_word g) a b
Notes f w (move.close g) a b = Meets w (pins_word g) a b
Notes f w move.begin a b = Meets w right_word a b
Notes f w move.end a b = Meets w right_word a b
Notes f w (move.publish next) a b = Meets w number_word a b
Notes f w (move.see n) a b = Meets w (name_word f n) a b
Notes f w (move.take n) a b = Meets w (name_word f n) a b
Notes f w (move.give n) a b = CountsOne a b
Notes f w (move.birth n) a b = Meets w (name_word f n) a b
Notes f w (move.lose n l) a b = Meets w (name_word f n) a b
Notes f w (move.retake n) a b = Meets w (name_word f n) a b
Notes f w (move.drop n) a b = Meets w (name_word f n) a b
Notes f w (move.drop_again n) a b = Meets w (name_word f n) a b
Notes f w d a b = b ≡ a

-- what an actor notes of its last step is what that step met: a move notes with its own actor just this, and with every
-- other actor nothing
pub record NotesTrue : Type 0 where
  pub own : (f : File) (w : World) (m : Move) → May f w m
      → (v u : View) → IsActor (read f w) m.who v → IsActor (read f (after f w m)) m.who u
      → Notes f w m.does v.step u.step
  pub others : (f : File) (w : World) (m : Move) → May f w m → (j : ℕ) → j ≢ m.who
      → (v u : View) → IsActor (read f w) j v → IsActor (read f (after f w m)) j u → 0 < u.share → u.step ≡ v.step

-- h of each Met of an actor, added up
abbrev pub met_sum : (Met → ℕ) → List Met → ℕ
met_sum h [] = 0
met_sum h (m ∷ ms) = h m + met_sum h ms

-- h of all Mets of an actor
abbrev pub mets_of : (Met → ℕ) → View → ℕ
mets_of h v = h v.own + met_sum h v.gone

-- Seen has what the answers of a Met show
abbrev pub SeenHas : Seen → Met → Type 0
SeenHas s m = (a : Answer) → 0 < often a m → Shows a s

-- an actor's Made is what its own answers say, and those of the actors that it took in: each closing and change stands
-- in it exactly as often as in these Mets. A number published was also looked at
pub record MadeIs (v : View) : Type 0 where
  pub published : (n : ℕ) → times n v.made.numbers ≤ mets_of (often (number n)) v
  pub changed : (a : Answer) → IsChange a → makes a v.made ≡ mets_of (often a) v

-- the same of one Met alone
abbrev pub MadeAlone : Made → Met → Type 0
MadeAlone made m = (a : Answer) → IsChange a → makes a made ≡ often a m

-- the answers tell what an actor has seen and made. Where it took in nobody, its Made is what its own answers say
abbrev pub AnswersTell : Type 0
AnswersTell = (f : File) (k : Opening) (w : World) → Reached f k w → (j : ℕ) (v : View) → IsActor (read f w) j v
    → ((m : Met) → IsMetOf v m → SeenHas v.seen m) × MadeIs v × (v.gone ≡ [] → MadeAlone v.made v.own)

-- the state with this actor alone
abbrev pub alone : State → View → State
alone s v = record s { views = v ∷ [] }

-- the last actor's Made accounts for the state
pub record BringsBack (f : File) (k : Opening) (s : State) (v : View) : Type 0 where
  pub number : ((s.number ≡ k.number) × ((m : ℕ) → times m v.made.numbers ≡ 0)) ⊎ (0 < times s.number v.made.numbers)
  pub greatest : (m : ℕ) → 0 < times m v.made.numbers → (k.number < m) × (m ≤ s.number)
  pub closed : (g : ℕ) → g < f.stages → IsClosed s g ↔ ((k.closed g ≡ true) ⊎ (0 < times g v.made.closings))
  pub unborn : (n : ℕ) → n < f.names
      → (s.name n ≡ word.unborn) ↔ ((k.name n ≡ word.unborn) × (times n v.made.changes.put ≡ 0))
  pub dropped : (n : ℕ) → n < f.names
      → (s.name n ≡ word.dropped) ↔ ((k.name n ≡ word.dropped) ⊎ (0 < times n v.made.changes.dropped))
  pub lost : (n : ℕ) → n < f.names → s.name n ≢ word.dropped
      → IsLost (s.name n) ↔ (losses n v.made.changes.lost + lost_bit (k.name n) ≡ times n v.made.changes.restored + 1)
  pub line : (n l : ℕ) → n < f.names → s.name n ≡ word.lost l
      → (k.name n ≡ word.lost l) ⊎ (0 < lines n l v.made.changes.lost)
  pub here : (n : ℕ) → n < f.names
      → (s.name n ≡ word.unborn) ⊎ ((s.name n ≡ word.here) ⊎ ((s.name n ≡ word.dropped) ⊎ IsLost (s.name n)))

-- the end: the last actor's Made accounts for the state, its Mets have their causes in it, it is at least what the
-- actor has seen, and the state is at rest
abbrev pub LastBringsBack : Type 0
LastBringsBack = (f : File) (k : Opening) (w : World) → Reached f k w → (j : ℕ) (v : View) → IsLast (read f w) j v
    → BringsBack f k (read f w) v × Caused k (alone (read f w) v) × Kept f k (alone (read f w) v)
    × Rest f (resting (read f w))

-- another actor has done this, or one that this actor took in
abbrev pub Another : State → ℕ → (View → ℕ) → ℕ → Type 0
Another s j deed taken_in = (0 < taken_in) ⊎ ((i : ℕ) × (u : View) × (i ≢ j) × IsActor s i u × (0 < deed u))

-- some actor has done this
abbrev pub Someone : State → (View → ℕ) → Type 0
Someone s deed = (i : ℕ) × (u : View) × IsActor s i u × (0 < deed u)

-- where the answers of an actor lead back to
pub record LeadsBack (f : File) (k : Opening) (s : State) (j : ℕ) (v : View) : Type 0 where
  -- a false begin: another actor's begin answered true
  pub refused : 0 < v.own.refused → Another s j begun_of (all_begun v.gone)
  -- a close of g that met more pins than its actor had: another actor's pin on an open g
  pub pinned : (g pins own : ℕ) → 0 < often (pinned g pins own) v.own → own < pins
      → Another s j (opened_of g) (all_opened g v.gone)
  -- Already, or a pin answered false: the opening, or a close answered Done
  pub already : (g : ℕ) (m : Met) → IsMetOf v m → 0 < often (already g) m + often (missed g) m
      → (k.closed g ≡ true) ⊎ Someone s (closings g)
  -- Lost(line): the opening, or a loss with that line
  pub lost : (n l : ℕ) (m : Met) → IsMetOf v m → 0 < often (lost n l) m
      → (k.name n ≡ word.lost l) ⊎ Someone s (loses_by n l)
  -- Absent: the opening
  pub absent : (m : Met) → IsMetOf v m → 0 < often (number absent) m → k.number ≡ absent
  -- Removed: the opening, or a publishing of q + 1
  pub removed : (m : Met) → IsMetOf v m → 0 < often (number (removed f)) m
      → (k.number ≡ removed f) ⊎ Someone s (publishings (removed f))

-- so it is of each actor in each reached state
abbrev pub CausesLeadBack : Type 0
CausesLeadBack = (f : File) (k : Opening) (w : World) → Reached f k w → (j : ℕ) (v : View) → IsActor (read f w) j v
    → LeadsBack f k (read f w) j v

-- the account of all actors: a step adds to it what it adds to its own actor; a split adds an empty Met and nothing
-- else; and a join leaves it as it is, up to the order of the Mets. Here d is how often something stands in a Made, and
-- h how often something stands in a Met
pub record AddsUp : Type 0 where
  pub step : (deed : View → ℕ) (vs : List View) (i : ℕ) (v w : View) → get_elem? vs i ≡ some v
      → total deed (slice_set vs i w) + deed v ≡ total deed vs + deed w
  pub split_made : (d : Made → ℕ) (vs : List View) (i : ℕ) (v : View) → get_elem? vs i ≡ some v → d nothing_made ≡ 0
      → total (λ u. d u.made) (slice_set vs i (old_half v) ++ new_half v ∷ []) ≡ total (λ u. d u.made) vs
  pub split_met : (h : Met → ℕ) (vs : List View) (i : ℕ) (v : View) → get_elem? vs i ≡ some v
      → total (mets_of h) (slice_set vs i (old_half v) ++ new_half v ∷ []) ≡ total (mets_of h) vs + h nothing_met
  pub join_made : (d : Made → ℕ) (vs : List View) (i j : ℕ) (v u : View) → j ≢ i
      → get_elem? vs i ≡ some v → get_elem? vs j ≡ some u
      → d nothing_made ≡ 0 → d (joined v u).made ≡ d v.made + d u.made
      → total (λ x. d x.made) (slice_set (slice_set vs i (joined v u)) j spent_view) ≡ total (λ x. d x.made) vs
  pub join_met : (h : Met → ℕ) (vs : List View) (i j : ℕ) (v u : View) → j ≢ i
      → get_elem? vs i ≡ some v → get_elem? vs j ≡ some u → h nothing_met ≡ 0
      → total (mets_of h) (slice_set (slice_set vs i (joined v u)) j spent_view) ≡ total (mets_of h) vs

-- the Met has one more of this answer, and of every other one as many as before
abbrev pub Enters : Option Answer → (before after : Met) → Type 0
Enters a m m' = (b : Answer) → (a ≡ Some b → often b m' ≡ often b m + 1) × (a ≢ Some b → often b m' ≡ often b m)

-- the Mets of an actor that is taken in
abbrev pub taken_in : World → Deed → List Met
taken_in w (move.join other) = (actor w other).own ∷ (actor w other).gone
taken_in w d = []

-- answers are entered: after a move the actor's own Met has one more of the move's answer, and no other change; beside
-- it stand the Mets of an actor that is taken in; and no other actor's Mets change
pub record AnswersEntered : Type 0 where
  pub own : (f : File) (w : World) (m : Move) → May f w m
      → (v u : View) → IsActor (read f w) m.who v → IsActor (read f (after f w m)) m.who u
      → Enters (said f w m.who m.does) v.own u.own × (u.gone ≡ v.gone ++ taken_in w m.does)
  pub others : (f : File) (w : World) (m : Move) → May f w m → (j : ℕ) → j ≢ m.who
      → (v u : View) → IsActor (read f w) j v → IsActor (read f (after f w m)) j u → 0 < u.share
      → (u.own ≡ v.own) × (u.gone ≡ v.gone)

-- Seen has all that the resting file holds
pub record SeesAll (f : File) (k : Opening) (s : Seen) : Type 0 where
  pub number : s.number ≡ k.number
  pub shut : (g : ℕ) → g < f.stages → k.closed g ≡ true → Among g s.shut
  pub born : (n : ℕ) → n < f.names → k.name n ≢ word.unborn → Among n s.born
  pub dropped : (n : ℕ) → n < f.names → k.name n ≡ word.dropped → Among n s.dropped

-- a new actor has half of the share and all that the old one has seen; it has made and met nothing, and has no pin, no
-- right and no name Taken
pub record StartsFrom (v u : View) : Type 0 where
  pub share : u.share ≡ v.share / 2
  pub seen : u.seen ≡ v.seen
  pub made : u.made ≡ nothing_made
  pub met : (u.own ≡ nothing_met) × (u.gone ≡ [])
  pub pins : IsFreeSlot Hold u × IsFreeSlot Work u
  pub right : LacksRight u.build
  pub inside : Free u

-- Seen is handed on: after a split the new actor stands behind the others and starts from the old one, which keeps what
-- it has seen, made and met; and the first actor has seen all that the resting file holds
pub record SeenHandedOn : Type 0 where
  pub split : (f : File) (w : World) (id : ℕ) (v : View) → May f w (by id move.split) → IsActor (read f w) id v
      → ((u : View) × IsActor (read f (after f w (by id move.split))) (length w.views) u × StartsFrom v u)
      × ((u : View) × IsActor (read f (after f w (by id move.split))) id u
      × (u.share + v.share / 2 ≡ v.share) × (u.seen ≡ v.seen) × (u.made ≡ v.made) × (u.own ≡ v.own) × (u.gone ≡ v.gone))
  pub first : (f : File) (k : Opening) (w : World) → Opens f k w
      → (v : View) × IsActor (read f w) 0 v × SeesAll f k v.seen

-- the word of a name fits the step that meets it: a see meets no Dropped name; a take meets Here, Taken, or Lost by a
-- lose line of the name's server; a birth meets Unborn, a retake Lost; and a return meets Taken
pub record MeetsFit (f : File) (w : World) (id : ℕ) : Type 0 where
  pub see : (n : ℕ) → May f w (by id (move.see n)) → (read f w).name n ≢ word.dropped
  pub take : (n : ℕ) → May f w (by id (move.take n)) → ((read f w).name n ≡ word.here)
      ⊎ (((read f w).name n ≡ word.taken) ⊎ ((l : ℕ) × ((read f w).name n ≡ word.lost l) × IsLoseLine f n l))
  pub birth : (n : ℕ) → May f w (by id (move.birth n)) → (read f w).name n ≡ word.unborn
  pub retake : (n : ℕ) → May f w (by id (move.retake n)) → IsLost ((read f w).name n)
  pub returns : (n : ℕ) → Active (actor w id) → HasTaken (actor w id) n → (read f w).name n ≡ word.taken

-- so it is in each reached state
abbrev pub AnswersFit : Type 0
AnswersFit = (f : File) (k : Opening) (w : World) → Reached f k w → (id : ℕ) → MeetsFit f w id

-- a file at rest still rests where its lose lines stay and others come, as in the next phase
abbrev pub RestGoesOn : Type 0
RestGoesOn = (f : File) (k : Opening) (more : List Line) → Rest f k → Rest (record f { losses = f.losses ++ more }) k
