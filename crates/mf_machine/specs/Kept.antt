-- The ten rules, which hold at the opening and after every move.
use Rattle.std.specs.Prelude.{◌≡◌, ◌≢◌, ◌⊎◌, ◌↔◌, ℕ, ◌+◌, ◌<◌, ◌≤◌, true}
use mathlib.Core.Option.{some}
use lib.ListN.{get_elem?}
use Rattle.mf_machine.specs.declared.view.Met.{Met}
use Rattle.mf_machine.specs.declared.view.View.{View}
use Rattle.mf_machine.specs.Actors.{Among, HasRight, HasLooked, LastLooked, SawShut, IsGetting, IsBearing, IsRetaking}
use Rattle.mf_machine.specs.Actors.{IsLosing, IsDropping, live, PinHolds}
use Rattle.mf_machine.specs.Answers.{Answer, number, refused, missed, already, pinned, unborn, here, lost, not_lost}
use Rattle.mf_machine.specs.Answers.{not_dropped, often}
use Rattle.mf_machine.specs.Counts.{times, total}
use Rattle.mf_machine.specs.File.{File, removed, Opening, State, Holds, IsLoseLine, HasCell}
use Rattle.mf_machine.specs.Sums.{publishings, closings, puts, loses, loses_by, restores, drops, in_birth, in_retake}
use Rattle.mf_machine.specs.Sums.{in_lose, in_drop, begun_of, opened_of, lost_bit}
use Rattle.mf_machine.specs.Words as word
use Rattle.mf_machine.specs.Words.{number_of, closed_bit, IsLost}

-- v is the actor with the number j
abbrev pub IsActor : State → ℕ → View → Type 0
IsActor s j v = get_elem? s.views j ≡ some v

-- the generation is closed
abbrev pub IsClosed : State → ℕ → Type 0
IsClosed s g = closed_bit ≤ s.pins g

-- this is the actor's own Met, or that of an actor that it took in
abbrev pub IsMetOf : View → Met → Type 0
IsMetOf v m = (m ≡ v.own) ⊎ ((i : ℕ) × (get_elem? v.gone i ≡ some m))

-- the actor has seen the published number m: it is the greatest that it has seen, or it stands in its Met or in that of
-- an actor that it took in
abbrev pub HasSeen : View → ℕ → Type 0
HasSeen v m = (m ≡ v.seen.number) ⊎ ((c : Met) × IsMetOf v c × Among m c.numbers)

-- no name of generation g is Unborn
abbrev pub IsBorn : File → State → ℕ → Type 0
IsBorn f s g = (n : ℕ) → n < f.names → Holds f g n → s.name n ≢ word.unborn

-- some actor has made this, or is inside of it: it stands in all of them together
abbrev pub Stands : (View → ℕ) → State → Type 0
Stands deed s = 0 < total deed s.views

-- the actor is inside its own birth, retake, lose or drop of the name
abbrev pub IsInside : View → ℕ → Type 0
IsInside v n = IsBearing v.inside n ⊎ (IsRetaking v.inside n ⊎ (IsLosing v.inside n ⊎ IsDropping v.inside n))

-- the actor has the name Taken
abbrev pub HasTaken : View → ℕ → Type 0
HasTaken v n = IsGetting v.inside n ⊎ IsInside v n

-- the published number is at most q + 1
abbrev pub NumberTop : File → State → Type 0
NumberTop f s = s.number ≤ removed f

-- it isn't below any number that an actor has seen
abbrev pub NumberSeen : State → Type 0
NumberSeen s = (j : ℕ) (v : View) → IsActor s j v → (m : ℕ) → HasSeen v m → m ≤ s.number

-- where the right's holder has looked since its begin, it last looked at this number
abbrev pub NumberHeld : State → Type 0
NumberHeld s = (j : ℕ) (v : View) → IsActor s j v → HasRight v.build → HasLooked v.build → LastLooked v.last s.number

-- 1: the published number
pub record Number (f : File) (s : State) : Type 0 where
  pub top : NumberTop f s
  pub seen : NumberSeen s
  pub holder : NumberHeld s

-- the number of a closed generation is below the published one
abbrev pub ClosedPassed : File → State → Type 0
ClosedPassed f s = (g : ℕ) → g < f.stages → IsClosed s g → number_of g < s.number

-- no pin is on a closed generation
abbrev pub ClosedBare : File → State → Type 0
ClosedBare f s = (g : ℕ) → g < f.stages → IsClosed s g → (j : ℕ) (v : View) → IsActor s j v → live g v ≡ 0

-- a pin is on a generation that there is
abbrev pub PinnedIs : File → State → Type 0
PinnedIs f s = (j : ℕ) (v : View) → IsActor s j v → (g : ℕ) → 0 < live g v → g < f.stages

-- a pinned generation isn't closed
abbrev pub PinnedOpen : State → Type 0
PinnedOpen s = (j : ℕ) (v : View) → IsActor s j v → (g : ℕ) → 0 < live g v → IsClosed s g → ⊥

-- who has a pin has seen the number of its generation
abbrev pub PinnedSeen : State → Type 0
PinnedSeen s = (j : ℕ) (v : View) → IsActor s j v → (g : ℕ) → 0 < live g v → HasSeen v (number_of g)

-- 2: the pins and the closed generations. That no pin is on a closed generation is said from both sides
pub record Pins (f : File) (s : State) : Type 0 where
  pub passed : ClosedPassed f s
  pub bare : ClosedBare f s
  pub stage : PinnedIs f s
  pub stays_open : PinnedOpen s
  pub seen : PinnedSeen s

-- no name of the published generation is Unborn
abbrev pub BornPublished : File → State → Type 0
BornPublished f s = (g : ℕ) → g < f.stages → s.number ≡ number_of g → IsBorn f s g

-- nor of one whose number an actor has seen
abbrev pub BornSeen : File → State → Type 0
BornSeen f s = (j : ℕ) (v : View) → IsActor s j v → (g : ℕ) → g < f.stages → HasSeen v (number_of g) → IsBorn f s g

-- 3: the generations without an Unborn name
pub record Born (f : File) (s : State) : Type 0 where
  pub published : BornPublished f s
  pub seen : BornSeen f s

-- what an actor has seen closed is closed
abbrev pub SeenClosed : File → State → Type 0
SeenClosed f s = (j : ℕ) (v : View) → IsActor s j v → (g : ℕ) → g < f.stages → SawShut g v → IsClosed s g

-- what it has seen not Unborn isn't Unborn
abbrev pub SeenBorn : State → Type 0
SeenBorn s = (j : ℕ) (v : View) → IsActor s j v → (n : ℕ) → Among n v.seen.born → s.name n ≢ word.unborn

-- what it has dropped is Dropped
abbrev pub SeenDropped : State → Type 0
SeenDropped s = (j : ℕ) (v : View) → IsActor s j v → (n : ℕ) → Among n v.seen.dropped → s.name n ≡ word.dropped

-- 4: what actors have seen
pub record Seen (f : File) (s : State) : Type 0 where
  pub closed : SeenClosed f s
  pub born : SeenBorn s
  pub dropped : SeenDropped s

-- a name that the right's holder was answered Unborn since its begin, and hasn't put since, is Unborn, or Taken in its
-- own birth
abbrev pub UnbornToBuilder : State → Type 0
UnbornToBuilder s = (j : ℕ) (v : View) → IsActor s j v → HasRight v.build → (n : ℕ) → Among n v.build.unborn
    → (s.name n ≡ word.unborn) ⊎ ((s.name n ≡ word.taken) × IsBearing v.inside n)

-- one that it was answered Lost, and hasn't restored since, is Lost or Dropped, or Taken in its own retake
abbrev pub LostToBuilder : State → Type 0
LostToBuilder s = (j : ℕ) (v : View) → IsActor s j v → HasRight v.build → (n : ℕ) → Among n v.build.lost
    → IsLost (s.name n) ⊎ ((s.name n ≡ word.dropped) ⊎ ((s.name n ≡ word.taken) × IsRetaking v.inside n))

-- 5: what the right's holder was answered
pub record Builder (f : File) (s : State) : Type 0 where
  pub unborn : UnbornToBuilder s
  pub lost : LostToBuilder s

-- a name is Dropped only where each generation that holds it is closed
abbrev pub DroppedClosed : File → State → Type 0
DroppedClosed f s = (n : ℕ) → n < f.names → s.name n ≡ word.dropped
    → (g : ℕ) → g < f.stages → Holds f g n → IsClosed s g

-- and so it is Taken in a drop
abbrev pub DroppingClosed : File → State → Type 0
DroppingClosed f s = (j : ℕ) (v : View) → IsActor s j v → (n : ℕ) → IsDropping v.inside n
    → (g : ℕ) → g < f.stages → Holds f g n → IsClosed s g

-- 6: the dropped names
pub record Dropped (f : File) (s : State) : Type 0 where
  pub done : DroppedClosed f s
  pub doing : DroppingClosed f s

-- 7: Lost(line) stands only where there is a lose line of the name's server with this number
abbrev pub Losses : File → State → Type 0
Losses f s = (n l : ℕ) → n < f.names → s.name n ≡ word.lost l → IsLoseLine f n l

-- a name that is Here has its cell in its slot
abbrev pub HereIsCell : File → State → Type 0
HereIsCell f s = (n : ℕ) → n < f.names → s.name n ≡ word.here → HasCell f n (s.home n)

-- a Taken name is some actor's
abbrev pub TakenBySome : File → State → Type 0
TakenBySome f s = (n : ℕ) → n < f.names → s.name n ≡ word.taken
    → (j : ℕ) × (v : View) × IsActor s j v × HasTaken v n

-- and no other's
abbrev pub TakenByOne : State → Type 0
TakenByOne s = (i j : ℕ) (u v : View) → IsActor s i u → IsActor s j v
    → (n : ℕ) → HasTaken u n → HasTaken v n → i ≡ j

-- what an actor has Taken is a name of the file
abbrev pub TakenIsName : File → State → Type 0
TakenIsName f s = (j : ℕ) (v : View) → IsActor s j v → (n : ℕ) → HasTaken v n → n < f.names

-- its word says so
abbrev pub TakenIsTaken : State → Type 0
TakenIsTaken s = (j : ℕ) (v : View) → IsActor s j v → (n : ℕ) → HasTaken v n → s.name n ≡ word.taken

-- and the actor has a pin whose generation holds it, or is inside its own birth, retake, lose or drop
abbrev pub TakenIsHeld : File → State → Type 0
TakenIsHeld f s = (j : ℕ) (v : View) → IsActor s j v → (n : ℕ) → HasTaken v n
    → PinHolds f v.hold v.work n ⊎ IsInside v n

-- 8: the slots of names that are Here, and the names that are Taken
pub record Cells (f : File) (s : State) : Type 0 where
  pub here : HereIsCell f s
  pub taken : TakenBySome f s
  pub one : TakenByOne s
  pub named : TakenIsName f s
  pub marked : TakenIsTaken s
  pub held : TakenIsHeld f s

-- the number is the opening's, or the greatest published one where there is one
abbrev pub NumberGiven : Opening → State → Type 0
NumberGiven k s = ((s.number ≡ k.number) × ((m : ℕ) → total (publishings m) s.views ≡ 0))
    ⊎ Stands (publishings s.number) s

-- no published number is above the file's
abbrev pub Greatest : State → ℕ → Type 0
Greatest s m = Stands (publishings m) s → m ≤ s.number

-- no publishing stands twice, and none of it was so at the opening
abbrev pub PublishedOnce : Opening → State → ℕ → Type 0
PublishedOnce k s m = Stands (publishings m) s → (total (publishings m) s.views ≡ 1) × (k.number < m)

-- no closing, either
abbrev pub ClosedOnce : Opening → State → ℕ → Type 0
ClosedOnce k s g = Stands (closings g) s → (total (closings g) s.views ≡ 1) × (k.closed g ≢ true)

-- no put, either
abbrev pub PutOnce : Opening → State → ℕ → Type 0
PutOnce k s n = Stands (puts n) s → (total (puts n) s.views ≡ 1) × (k.name n ≡ word.unborn)

-- and no drop
abbrev pub DroppedOnce : Opening → State → ℕ → Type 0
DroppedOnce k s n = Stands (drops n) s → (total (drops n) s.views ≡ 1) × (k.name n ≢ word.dropped)

-- a generation is closed exactly where it was so or some actor has closed it
abbrev pub ClosedBy : Opening → State → ℕ → Type 0
ClosedBy k s g = IsClosed s g ↔ ((k.closed g ≡ true) ⊎ Stands (closings g) s)

-- a name is Unborn, or Taken in a birth, exactly where it was Unborn and no actor has put it
abbrev pub UnbornStill : Opening → State → ℕ → Type 0
UnbornStill k s n = ((s.name n ≡ word.unborn) ⊎ Stands (in_birth n) s)
    ↔ ((k.name n ≡ word.unborn) × (total (puts n) s.views ≡ 0))

-- a name is Dropped exactly where it was so or some actor has dropped it
abbrev pub DroppedBy : Opening → State → ℕ → Type 0
DroppedBy k s n = (s.name n ≡ word.dropped) ↔ ((k.name n ≡ word.dropped) ⊎ Stands (drops n) s)

-- where a name is Lost or Taken in a retake, its losses, with the opening's, are one more than its restores
abbrev pub LostOnceMore : Opening → State → ℕ → Type 0
LostOnceMore k s n = s.name n ≢ word.dropped → IsLost (s.name n) ⊎ Stands (in_retake n) s
    → total (loses n) s.views + lost_bit (k.name n) ≡ total (restores n) s.views + 1

-- and where it isn't, nor Dropped, they are as many
abbrev pub LostAsOften : Opening → State → ℕ → Type 0
LostAsOften k s n = s.name n ≢ word.dropped → s.name n < word.lost 0 → total (in_retake n) s.views ≡ 0
    → total (loses n) s.views + lost_bit (k.name n) ≡ total (restores n) s.views

-- Lost(line) stands only where it was so or some actor has lost the name with that line
abbrev pub LineGiven : Opening → State → ℕ → Type 0
LineGiven k s n = (l : ℕ) → s.name n ≡ word.lost l → (k.name n ≡ word.lost l) ⊎ Stands (loses_by n l) s

-- 9: all that the actors made accounts for the state
pub record Accounted (f : File) (k : Opening) (s : State) : Type 0 where
  pub number : NumberGiven k s
  pub greatest : (m : ℕ) → Greatest s m
  pub published_once : (m : ℕ) → PublishedOnce k s m
  pub closed_once : (g : ℕ) → g < f.stages → ClosedOnce k s g
  pub put_once : (n : ℕ) → n < f.names → PutOnce k s n
  pub dropped_once : (n : ℕ) → n < f.names → DroppedOnce k s n
  pub closed : (g : ℕ) → g < f.stages → ClosedBy k s g
  pub unborn : (n : ℕ) → n < f.names → UnbornStill k s n
  pub dropped : (n : ℕ) → n < f.names → DroppedBy k s n
  pub lost : (n : ℕ) → n < f.names → LostOnceMore k s n
  pub kept : (n : ℕ) → n < f.names → LostAsOften k s n
  pub line : (n : ℕ) → n < f.names → LineGiven k s n

-- the cause of an answer that stands in the Met m. A number looked at was the opening one, or some actor has published
-- it. A generation answered Already, or whose pin was answered false, was closed at the opening, or some actor has
-- closed it. A name answered Unborn was so at the opening; one answered Lost(line) was so, or some actor has lost it
-- with that line; one answered Here was so, or some actor has put or restored it, or is inside its birth or retake. One
-- whose lose was answered Nothing was Unborn, Lost or Dropped at the opening, or some actor has lost or dropped it; one
-- whose discard was, was Unborn or Dropped at the opening, or some actor has lost or dropped it, or is inside its lose
-- or drop. Where a begin was answered false, all Mets together have more begins answered true than this one has. Where
-- a close of g met more pins than its actor had, they have more pins made on an open g
abbrev pub Cause : Opening → State → Met → Answer → Type 0
Cause k s m (number n) = (n ≡ k.number) ⊎ Stands (publishings n) s
Cause k s m (missed g) = (k.closed g ≡ true) ⊎ Stands (closings g) s
Cause k s m (already g) = (k.closed g ≡ true) ⊎ Stands (closings g) s
Cause k s m (unborn n) = k.name n ≡ word.unborn
Cause k s m (lost n l) = (k.name n ≡ word.lost l) ⊎ Stands (loses_by n l) s
Cause k s m (here n) = (k.name n ≡ word.here) ⊎ (Stands (puts n) s
    ⊎ (Stands (restores n) s ⊎ (Stands (in_birth n) s ⊎ Stands (in_retake n) s)))
Cause k s m (not_lost n) = (k.name n ≡ word.unborn) ⊎ (IsLost (k.name n) ⊎ ((k.name n ≡ word.dropped)
    ⊎ (Stands (loses n) s ⊎ Stands (drops n) s)))
Cause k s m (not_dropped n) = (k.name n ≡ word.unborn) ⊎ ((k.name n ≡ word.dropped)
    ⊎ (Stands (loses n) s ⊎ (Stands (drops n) s ⊎ (Stands (in_lose n) s ⊎ Stands (in_drop n) s))))
Cause k s m refused = m.begun < total begun_of s.views
Cause k s m (pinned g pins own) = own < pins → times g m.opened < total (opened_of g) s.views
Cause k s m a = Unit {0}

-- each such answer in a Met has its cause
abbrev pub AnswerCaused : Opening → State → Answer → Type 0
AnswerCaused k s a = (j : ℕ) (v : View) → IsActor s j v → (m : Met) → IsMetOf v m → 0 < often a m → Cause k s m a

-- an actor that has the right has a begin answered true in its own Met
abbrev pub RightBegun : State → Type 0
RightBegun s = (j : ℕ) (v : View) → IsActor s j v → HasRight v.build → 0 < v.own.begun

-- one that has a pin on g has in it a pin made on an open g
abbrev pub PinOpened : State → Type 0
PinOpened s = (j : ℕ) (v : View) → IsActor s j v → (g : ℕ) → 0 < live g v → Among g v.own.opened

-- 10: the causes of what actors were answered
pub record Caused (k : Opening) (s : State) : Type 0 where
  pub answers : (a : Answer) → AnswerCaused k s a
  pub right : RightBegun s
  pub pin : PinOpened s

-- the ten together
pub record Kept (f : File) (k : Opening) (s : State) : Type 0 where
  pub number : Number f s
  pub pins : Pins f s
  pub born : Born f s
  pub seen : Seen f s
  pub builder : Builder f s
  pub dropped : Dropped f s
  pub losses : Losses f s
  pub cells : Cells f s
  pub accounted : Accounted f k s
  pub caused : Caused k s
