-- What an engine did, as a list of calls with their answers; and what every access keeps.
use Rattle.std.specs.Prelude.{◌≡◌, ℕ, ◌<◌, ◌≤◌, true, List, [], ◌∷◌, ◌++◌, length, All, IfSome}
use Rattle.mf_machine.specs.declared.view.View.{View}
use Rattle.mf_machine.specs.Actors.{Active, Free, HasRight, HasLooked, LastLooked}
use Rattle.mf_machine.specs.File.{removed}
use Rattle.mf_machine.specs.Rest as resting
use Rattle.mf_machine.specs.Ruled.{Ruled}
use Rattle.mf_places.specs.Facts.{IsBook}
use Rattle.mf_vault.specs.Facts.{Facts, file, stages}
use Rattle.mf_vault.specs.declared.answers.Entry.{Entry}
use Rattle.mf_machine.specs.declared.answer.Slot.TheVariants.{Work}
use Rattle.mf_machine.specs.Steps.{begun}
use Rattle.mf_machine.specs.Words.{right_word, number_of, absent, filled}
use Rattle.mf_machine.specs.Worlds.{World, Fits, actor, read, word_of, no_step, outside}
use Rattle.mf_vault.specs.declared.answers.Pinned.{Pinned}
use Rattle.mf_vault.specs.declared.answers.Pinned.TheVariants.{At, Absent, Removed}
use Rattle.mf_vault.specs.Actor.{Actor, Call, begin, pin, did, entry_of}
use Rattle.mf_vault.specs.Answers.{IsFair, IsTold, IsPin}

-- the actor after calls in turn
abbrev pub did_all : List Call → Actor → Actor
did_all [] a = a
did_all (c ∷ cs) a = did_all cs (did c a)

-- what is promised of each answer
abbrev pub AreFair : List Call → Actor → Type 0
AreFair [] a = Unit {0}
AreFair (c ∷ cs) a = IsFair c a × AreFair cs (did c a)

abbrev pub AreTold : List Call → Actor → Type 0
AreTold [] a = Unit {0}
AreTold (c ∷ cs) a = IsTold c a × AreTold cs (did c a)

-- these calls, with their answers, lead from one actor to the other
pub record Does (cs : List Call) (a b : Actor) : Type 0 where
  pub becomes : b ≡ did_all cs a
  pub fair : AreFair cs a
  pub told : AreTold cs a

-- their entries
abbrev pub entries_of : List Call → List Entry
entries_of [] = []
entries_of (c ∷ cs) = entry_of c ++ entries_of cs

-- ---- what every access keeps

-- the book lays out a file of these bytes
pub record IsFile (f : Facts) : Type 0 where
  pub layout : IsBook f.book
  pub long : length f.bytes ≡ f.book.bytes
  pub bytes : All (λ b. b < 256) f.bytes

-- the actor is active and inside of nothing, and its pins are on stages
pub record IsReady (f : Facts) (v : View) : Type 0 where
  pub active : Active v
  pub free : Free v
  pub hold : v.hold ≤ stages f
  pub work : v.work ≤ stages f
  pub right : v.build.right ≤ 1

-- a view without the note of its last step and what it was last inside of
abbrev pub erased : View → View
erased v = record v { step = no_step; inside = outside }

-- the whole state keeps the rule of the file machine
pub record Holding (f : Facts) (w : World) : Type 0 where
  pub rest : resting.Rest (file f) f.opening
  pub fits : Fits (file f) w
  pub ruled : Ruled (file f) f.opening (read (file f) w)

-- the whole state has this one actor, and keeps the rule
pub record IsAlone (f : Facts) (v : View) (w : World) : Type 0 where
  pub view : v ≡ erased (actor w 0)
  pub only : w.views ≡ actor w 0 ∷ []
  pub right : word_of w right_word ≡ v.build.right
  pub holding : ∥ Holding f w ∥₁

pub record IsKept (a : Actor) : Type 0 where
  pub file : IsFile a.facts
  pub ready : IsReady a.facts a.view
  pub alone : IfSome a.whole (IsAlone a.facts a.view)

-- ---- the begin and the pin with which an engine starts

-- the number that a pin looked at, and the Work slot after it
abbrev pub number_of_pin : Facts → Pinned → ℕ
number_of_pin f (At g) = number_of g
number_of_pin f Absent = absent
number_of_pin f Removed = removed (file f)

abbrev pub work_of_pin : Pinned → ℕ → ℕ
work_of_pin (At g) work = filled g
work_of_pin Absent work = work
work_of_pin Removed work = work

-- the actor has the right, and has looked at the published number n since its begin
pub record IsBuilding (a : Actor) (n : ℕ) : Type 0 where
  pub right : HasRight a.view.build
  pub looked : HasLooked a.view.build
  pub last : LastLooked a.view.last n
  pub seen : a.view.seen.number ≡ n

-- a begin answered true, and a pin of the Work slot with this answer
pub record Entered (p : Pinned) (a c : Actor) : Type 0 where
  pub missed : List ℕ
  pub does : Does (begin true ∷ pin Work missed p ∷ []) a c
  pub building : IsBuilding c (number_of_pin c.facts p)
  pub work : c.view.work ≡ work_of_pin p a.view.work
  pub hold : c.view.hold ≡ a.view.hold
  pub facts : c.facts ≡ a.facts
  pub cut : c.cut ≡ a.cut
  pub range : IsPin a.facts p (begun a.view)
