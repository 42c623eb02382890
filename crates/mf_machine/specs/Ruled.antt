-- The rule in the form in which each step keeps it: each word is a sum over the opening and all actors, and each
-- actor's facts hold by sums that never fall. The ten rules of `Kept` follow from it.
use Rattle.std.specs.Prelude.{◌≡◌, ◌≢◌, ◌⊎◌, ℕ, ◌+◌, ◌*◌, ◌<◌, ◌≤◌, List}
use mathlib.Core.Option.{some}
use lib.ListN.{get_elem?}
use Rattle.mf_machine.specs.declared.view.Build.{Build}
use Rattle.mf_machine.specs.declared.view.Inside.{Inside}
use Rattle.mf_machine.specs.declared.view.Met.{Met}
use Rattle.mf_machine.specs.declared.view.Seen.{Seen}
use Rattle.mf_machine.specs.declared.view.View.{View}
use Rattle.mf_machine.specs.Actors.{Among, HasRight, HasLooked, LastLooked, IsGetting, IsBearing, IsRetaking, IsLosing}
use Rattle.mf_machine.specs.Actors.{IsDropping, IsTrying, on, live, PinHolds, NextHolds, WorkHolds, AllShown}
use Rattle.mf_machine.specs.Answers as answer
use Rattle.mf_machine.specs.Answers.{Answer, often}
use Rattle.mf_machine.specs.Counts.{bit, times, total}
use Rattle.mf_machine.specs.File.{File, removed, Opening, State, Holds, IsLoseLine, Home, HasCell}
use Rattle.mf_machine.specs.Sums.{right_of, share_of, pins, publishings, lost_bit, puts, loses, restores, drops}
use Rattle.mf_machine.specs.Sums.{in_get, in_birth, in_retake, in_lose, in_drop, Tally, tally}
use Rattle.mf_machine.specs.Words as word
use Rattle.mf_machine.specs.Words.{whole_share, number_of, closed_bit, IsLost}
use Rattle.mf_machine.specs.Worlds.{spent_view}
use Rattle.mf_machine.specs.File.Home.{away, empty}

-- the published number
pub record NumberIs (f : File) (k : Opening) (p : ℕ) (vs : List View) : Type 0 where
  pub top : p ≤ removed f
  pub floor : k.number ≤ p
  pub heard : 0 < tally k vs (answer.number p)
  pub once : (m : ℕ) → 0 < total (publishings m) vs → (total (publishings m) vs ≡ 1) × (k.number < m) × (m ≤ p)

-- the pins of one generation: the word x, how often it was closed, the pins that count and all pins
pub record PinsAre (p g x shuts alive all : ℕ) : Type 0 where
  pub word : x ≡ closed_bit * shuts + all
  pub once : shuts ≤ 1
  pub low : 0 < shuts → (number_of g < p) × (alive ≡ 0)

-- one name: its word w, its slot, and its sums
pub record NameIs (f : File) (k : Opening) (n w : ℕ) (home : Home) (vs : List View) : Type 0 where
  pub taken : total (in_get n) vs + total (in_birth n) vs + total (in_retake n) vs + total (in_lose n) vs
      + total (in_drop n) vs ≡ bit w word.taken
  pub born : total (puts n) vs + total (in_birth n) vs + bit w word.unborn ≡ bit (k.name n) word.unborn
  pub dropped : total (drops n) vs + bit (k.name n) word.dropped ≡ bit w word.dropped
  pub lost : w ≢ word.dropped
      → total (loses n) vs + lost_bit (k.name n) ≡ total (restores n) vs + total (in_retake n) vs + lost_bit w
  pub line : (l : ℕ) → w ≡ word.lost l → (0 < tally k vs (answer.lost n l)) × IsLoseLine f n l
  pub left : w ≡ word.dropped → (g : ℕ) → g < f.stages → Holds f g n → 0 < tally k vs (answer.closed g)
  pub here : w ≡ word.here → HasCell f n home
  pub out : w ≡ word.taken → home ≡ away
  pub bare : w ≢ word.here → w ≢ word.taken → home ≡ empty

-- the words and slots, from all actors together
pub record Words (f : File) (k : Opening) (s : State) : Type 0 where
  pub number : NumberIs f k s.number s.views
  pub right : s.right ≡ total right_of s.views
  pub one : s.right ≤ 1
  pub shares : total share_of s.views ≤ whole_share
  pub pins : (g : ℕ) → g < f.stages
      → PinsAre s.number g (s.pins g)
      (tally k s.views (answer.closed g)) (total (live g) s.views) (total (pins g) s.views)
  pub names : (n : ℕ) → n < f.names
      → NameIs f k n (s.name n) (s.home n) s.views
  pub born : (g : ℕ) → g < f.stages → 0 < tally k s.views (answer.number (number_of g))
      → (n : ℕ) → n < f.names → Holds f g n → s.name n ≢ word.unborn

-- what an actor has seen
pub record SeenIs (number : ℕ) (name : ℕ → ℕ) (a : Tally) (s : Seen) : Type 0 where
  pub low : s.number ≤ number
  pub heard : 0 < s.number → 0 < a (answer.number s.number)
  pub shut : (g : ℕ) → Among g s.shut → 0 < a (answer.closed g)
  pub born : (n : ℕ) → Among n s.born → name n ≢ word.unborn
  pub dropped : (n : ℕ) → Among n s.dropped → name n ≡ word.dropped

-- the number that it last looked at
abbrev pub LastIs : (last seen : ℕ) → List ℕ → Type 0
LastIs last seen numbers = (m : ℕ) → LastLooked last m → (m ≤ seen) × Among m numbers

-- its right
pub record RightIs (number : ℕ) (b : Build) (last begun : ℕ) : Type 0 where
  pub bit : b.right ≤ 1
  pub current : HasRight b → HasLooked b → LastLooked last number
  pub has : HasRight b → 0 < begun

-- what it was answered since its begin
pub record BuildIs (name : ℕ → ℕ) (b : Build) (i : Inside) : Type 0 where
  pub unborn : HasRight b → (n : ℕ) → Among n b.unborn → (name n ≡ word.unborn) ⊎ IsBearing i n
  pub lost : HasRight b → (n : ℕ) → Among n b.lost → IsLost (name n) ⊎ ((name n ≡ word.dropped) ⊎ IsRetaking i n)
  pub settled : (n : ℕ) → Among n b.settled → name n ≢ word.unborn

-- its pins on open generations
abbrev pub PinsKnow : File → (hold work : ℕ) → Met → Type 0
PinsKnow f hold work m = (g : ℕ) → 0 < on g hold work
    → (g < f.stages) × Among (number_of g) m.numbers × Among g m.opened

-- its pins on closed ones
abbrev pub StraysKnow : (share : ℕ) → (strays shut : List ℕ) → Type 0
StraysKnow share strays shut = (g : ℕ) → Among g strays → Among g shut × (times g strays ≤ share)

-- what it is inside of
pub record InsideIs (f : File) (name : ℕ → ℕ) (i : Inside) (hold work last : ℕ) (b : Build) (m : Met) : Type 0 where
  pub getting : (n : ℕ) → IsGetting i n → (n < f.names) × PinHolds f hold work n
  pub bearing : (n : ℕ) → IsBearing i n → (n < f.names) × NextHolds f b last n
  pub retaking : (n : ℕ) → IsRetaking i n → (n < f.names) × WorkHolds f b last work n
  pub losing : (n : ℕ) → IsLosing i n → n < f.names
  pub dropping : (n : ℕ) → IsDropping i n → (n < f.names) × AllShown f m n
  pub trying : (n : ℕ) → IsTrying i n
      → (n < f.names) × AllShown f m n × IsLost i.tried × ((name n ≡ i.tried) ⊎ (name n ≡ word.dropped))

-- the ground of an answer that stands in the Met m
abbrev pub Ground : Tally → Met → Answer → Type 0
Ground a m answer.refused = m.begun < a answer.begun
Ground a m (answer.missed g) = 0 < a (answer.closed g)
Ground a m (answer.already g) = 0 < a (answer.closed g)
Ground a m (answer.pinned g pins own) = own < pins → times g m.opened < a (answer.opened g)
Ground a m answer.begun = Unit {0}
Ground a m (answer.opened g) = Unit {0}
Ground a m (answer.put n) = Unit {0}
Ground a m (answer.restored n) = Unit {0}
Ground a m (answer.made_lost n l) = Unit {0}
Ground a m (answer.dropped n) = Unit {0}
Ground a m x = 0 < a x

-- each answer in it has its ground
abbrev pub MetIs : Tally → Met → Type 0
MetIs a m = (x : Answer) → 0 < often x m → Ground a m x

-- what is known of one actor
pub record Sits (f : File) (k : Opening) (number : ℕ) (name : ℕ → ℕ) (a : Tally) (v : View) : Type 0 where
  pub spent : v.share ≡ 0 → v ≡ spent_view
  pub strays : StraysKnow v.share v.strays v.seen.shut
  pub seen : SeenIs number name a v.seen
  pub last : LastIs v.last v.seen.number v.own.numbers
  pub right : RightIs number v.build v.last v.own.begun
  pub build : BuildIs name v.build v.inside
  pub pins : PinsKnow f v.hold v.work v.own
  pub inside : InsideIs f name v.inside v.hold v.work v.last v.build v.own
  pub own : MetIs a v.own
  pub gone : (i : ℕ) (m : Met) → get_elem? v.gone i ≡ some m → MetIs a m

-- the same in a state
abbrev pub SitsIn : File → Opening → State → View → Type 0
SitsIn f k s v = Sits f k s.number s.name (tally k s.views) v

-- the rule: the words and slots, and each actor
pub record Ruled (f : File) (k : Opening) (s : State) : Type 0 where
  pub words : Words f k s
  pub each : (j : ℕ) (v : View) → get_elem? s.views j ≡ some v → SitsIn f k s v
