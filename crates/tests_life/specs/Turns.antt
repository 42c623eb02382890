-- What an actor of a trial is from turn to turn.
use Rattle.std.specs.Prelude.{◌≡◌, ℕ, List}
use Rattle.mf_check.specs.Families.{Code}
use Rattle.mf_vault.specs.Actor.{Actor}
use Rattle.mf_vault.specs.Conditions.{IsIdle, IsOfFamily}
use Rattle.mf_vault.specs.Facts.{Facts}
use Rattle.mf_shared.specs.declared.seat.Seat.{Seat}
use Rattle.mf_shared.specs.declared.shared.Shared.{Shared}
use Rattle.mf_shared.specs.Seats.{IsOf, view_of}
use Rattle.tests_life.specs.Mendings.{HasLine}

-- the file is of the family, has these bytes, and its server 0 has a lose line 11
pub record IsTried (c : Code) (v : List ℕ) (f : Facts) : Type 0 where
  pub shaped : IsOfFamily c.shape c.points f.book
  pub bytes : f.bytes ≡ v
  pub line : HasLine f.losses 11 0

-- the actor is idle, at such a file
pub record IsAble (c : Code) (v : List ℕ) (a : Actor) : Type 0 where
  pub idle : IsIdle a
  pub tried : IsTried c v a.facts

-- the actor is idle again, at the same file, with the same share
pub record Follows (a b : Actor) : Type 0 where
  pub idle : IsIdle b
  pub facts : b.facts ≡ a.facts
  pub share : b.view.share ≡ a.view.share

-- the second seat is of the file, with the share of the first
pub record Stays (a b : Seat) (s : Shared) : Type 0 where
  pub of : IsOf b s
  pub share : (view_of b).share ≡ (view_of a).share
