-- What an engine asks of an actor and its file, and how it leaves the actor.
use Rattle.std.specs.Prelude.{◌≡◌, ℕ, List}
use Rattle.mf_places.specs.Facts.{BookFacts}
use Rattle.mf_shape.specs.Chain.{Chain}
use Rattle.mf_vault.specs.Actor.{Actor}

-- the book is of this shape and has these points: those of the file's family
pub record IsOfFamily (chain : Chain) (numbers : List ℕ) (b : BookFacts) : Type 0 where
  pub shape : b.shape ≡ chain
  pub points : b.points ≡ numbers

-- the actor hasn't the right to build, and its Work slot is free
pub record IsIdle (a : Actor) : Type 0 where
  pub right : a.view.build.right ≡ 0
  pub work : a.view.work ≡ 0

-- an engine's call leaves the actor idle, and the file's facts, the Hold slot and the cut-off servers as they were
pub record Leaves (a b : Actor) : Type 0 where
  pub idle : IsIdle b
  pub facts : b.facts ≡ a.facts
  pub hold : b.view.hold ≡ a.view.hold
  pub cut : b.cut ≡ a.cut
