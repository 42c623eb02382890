-- A file at rest: as a gate is made from it, and as it is left at the end.
use Rattle.std.specs.Prelude.{◌≡◌, ◌≢◌, ◌↔◌, ℕ, ◌+◌, ◌*◌, ◌^◌, ◌<◌, ◌==◌, Bool, true, false, List, []}
use Rattle.std.specs.Prelude.{length, slice_index, slice_index_or, Option, Some, None, if◌then◌else◌}
use Rattle.mf_machine.specs.declared.view.View.{View}
use Rattle.mf_machine.specs.declared.answer.Slot.TheVariants.{Hold, Work}
use Rattle.mf_machine.specs.Actors.{IsFreeSlot, LacksRight, Free}
use Rattle.mf_machine.specs.Counts.{truth}
use Rattle.mf_machine.specs.File.{State}
use Rattle.mf_machine.specs.Kept as machine
use Rattle.mf_machine.specs.Kept.{IsClosed}
use Rattle.mf_machine.specs.Laws.{BringsBack, alone}
use Rattle.mf_machine.specs.Rest as resting
use Rattle.mf_machine.specs.Words as word
use Rattle.mf_machine.specs.Words.{closed_bit, is_lost, is_here, line_of, whole_share}
use Rattle.mf_places.specs.declared.losses.LoseLine.{LoseLine}
use Rattle.mf_places.specs.Facts.{BookFacts}
use Rattle.mf_places.specs.Names.{count_of}
use Rattle.mf_vault.specs.declared.answers.Rest.{Rest}
use Rattle.mf_vault.specs.declared.answers.Rest.TheVariants as rest
use Rattle.mf_vault.specs.Resting.{word_of, home_of}
use Rattle.mf_gate.specs.declared.known.About.{About}
use Rattle.mf_gate.specs.Table.{facts_of, file_of}

-- the file at rest of these parts
abbrev pub about_of : BookFacts → List ℕ → List LoseLine → ℕ → List Bool → List Rest → About
about_of book bytes losses number closed names = record {
  book = book;
  bytes = bytes;
  losses = losses;
  number = number;
  closed = closed;
  names = names;
}

-- it rests, and there is a state of each generation and name
pub record AtRest (k : About) : Type 0 where
  pub closed : length k.closed ≡ length k.book.shape.stages
  pub names : length k.names ≡ count_of k.book
  pub rest : resting.Rest (file_of k) (facts_of k).opening

-- the last pass: it has the whole share again, and no pin, no right and no name Taken
pub record IsLast (v : View) : Type 0 where
  pub share : v.share ≡ whole_share
  pub hold : IsFreeSlot Hold v
  pub work : IsFreeSlot Work v
  pub right : LacksRight v.build
  pub free : Free v

-- what is left where the last actor had the view v: a state that keeps the ten rules with this actor alone, and for
-- which its Made accounts; and the number, the closed generations and the names are those of this state, at rest
pub record Leaves (k : About) (v : View) (number : ℕ) (closed : List Bool) (names : List Rest) : Type 0 where
  pub state : State
  pub number_is : number ≡ state.number
  pub closed_are : (g : ℕ) → g < (file_of k).stages → (slice_index_or closed g false ≡ true) ↔ IsClosed state g
  pub names_are : (n : ℕ) → n < (file_of k).names → (word_of (slice_index_or names n rest.Unborn) ≡ state.name n)
      × (home_of (slice_index_or names n rest.Unborn) ≡ state.home n)
  pub brings : BringsBack (file_of k) (facts_of k).opening state v
  pub kept : machine.Kept (file_of k) (facts_of k).opening (alone state v)
  pub at_rest : AtRest (about_of k.book k.bytes k.losses number closed names)

-- ---- words of private functions

-- the word of a name at rest, whose line is a number of 32 bits
abbrev pub IsNameWord : Rest → ℕ → Type 0
IsNameWord r x = (x ≡ word_of r) × (x < 2 ^ 32 + 4)

-- the words of a file at rest
pub record HasWords (number : ℕ) (closed : List Bool) (names : List Rest) (ws : List ℕ) : Type 0 where
  pub long : length ws ≡ length closed + 2 + length names
  pub number_is : slice_index ws 0 ≡ number
  pub right : slice_index ws 1 ≡ word.free
  pub pins : (g : ℕ) → g < length closed
      → slice_index ws (g + 2) ≡ closed_bit * truth (slice_index_or closed g false)
  pub names_are : (n : ℕ) → n < length names → IsNameWord (slice_index_or names n rest.Unborn)
      (slice_index ws (length closed + 2 + n))

-- the slot of a name at rest
abbrev pub slot_of : Rest → Option (List ℕ)
slot_of rest.Unborn = None
slot_of (rest.Here c) = Some c
slot_of (rest.Lost l) = None
slot_of rest.Dropped = None

pub record HasSlots (names : List Rest) (xs : List (Option (List ℕ))) : Type 0 where
  pub long : length xs ≡ length names
  pub slots : (n : ℕ) → n < length names
      → slice_index_or xs n None ≡ slot_of (slice_index_or names n rest.Unborn)

-- the bytes in a slot
abbrev pub bytes_in : Option (List ℕ) → List ℕ
bytes_in None = []
bytes_in (Some c) = c

-- a name at rest, from its word and its slot
abbrev pub rest_from : ℕ → Option (List ℕ) → Rest
rest_from x y = if x == word.unborn then rest.Unborn else (if x == word.dropped then rest.Dropped
    else (if is_lost x then rest.Lost (line_of x) else rest.Here (bytes_in y)))

-- the word and the slot are those of a name at rest
pub record IsResting (x : ℕ) (y : Option (List ℕ)) : Type 0 where
  pub settled : x ≢ word.taken
  pub here : x ≡ word.here → (c : List ℕ) × (y ≡ Some c)
  pub low : x < 2 ^ 32 + 4
