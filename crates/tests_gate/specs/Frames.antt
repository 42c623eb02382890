-- What a pass has between two steps of a test, and what a step leaves of it.
use Rattle.std.specs.Prelude.{◌≡◌, ℕ, ◌+◌, ◌<◌, List, [], length, slice_index_or}
use Rattle.mf_machine.specs.declared.view.Met.{Met}
use Rattle.mf_machine.specs.declared.view.View.{View}
use Rattle.mf_machine.specs.Actors.{Among, HasLooked, LastLooked, AllShown, busy}
use Rattle.mf_machine.specs.File.{File, Holds}
use Rattle.mf_gate.specs.declared.gate.Gate.{Gate}
use Rattle.mf_gate.specs.declared.gate.Pass.{Pass}
use Rattle.mf_gate.specs.Passes.{IsAt, about, view}
use Rattle.mf_gate.specs.Table.{file_of}

-- an actor's share, its two slots, its right, and how much it is inside of
pub record Frame : Type 0 where
  pub share : ℕ
  pub hold : ℕ
  pub work : ℕ
  pub right : ℕ
  pub inside : ℕ

abbrev pub frame : View → Frame
frame v = record {
  share = v.share;
  hold = v.hold;
  work = v.work;
  right = v.build.right;
  inside = v.inside.getting + busy v.inside;
}

-- with this share, this Hold slot and this right, and nothing else
abbrev pub placed : (share hold right : ℕ) → Frame
placed share hold right = record { share = share; hold = hold; work = 0; right = right; inside = 0 }

-- the pass is of this gate, and has this Hold slot and this right, and nothing else
pub record IsPlaced (hold right : ℕ) (p : Pass) (g : Gate) : Type 0 where
  pub at : IsAt p g
  pub stands : frame (view p) ≡ placed (view p).share hold right

-- so has the second one, with the share of the first
pub record Moves (hold right : ℕ) (p p' : Pass) (g : Gate) : Type 0 where
  pub at : IsAt p' g
  pub stands : frame (view p') ≡ placed (view p).share hold right

-- the pass is of this gate, has the right, and pins generation g in its Work slot
pub record IsMending (g : ℕ) (p : Pass) (gate : Gate) : Type 0 where
  pub at : IsAt p gate
  pub stands : frame (view p) ≡ record { share = (view p).share; hold = 0; work = g + 1; right = 1; inside = 0 }

-- a builder, who has looked at the number m
pub record Builds (m : ℕ) (p : Pass) (g : Gate) : Type 0 where
  pub placed : IsPlaced 0 1 p g
  pub looked : HasLooked (view p).build
  pub last : LastLooked (view p).last m

-- each name of generation m is settled
abbrev pub IsSettled : (m : ℕ) → File → View → Type 0
IsSettled m f v = (n : ℕ) → n < f.names → Holds f m n → Among n v.build.settled

-- each generation that holds the name was answered closed
abbrev pub Shows : (n : ℕ) → File → Met → Type 0
Shows n f m = AllShown f m n

-- the chunks are the cells of the names from the first one on
abbrev pub AreCells : List (List ℕ) → Gate → Type 0
AreCells cells g = (n : ℕ) → n < length cells → slice_index_or cells n [] ≡ (file_of (about g)).cell n
