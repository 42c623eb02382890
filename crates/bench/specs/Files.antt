-- A file as it is made for gets.
use Rattle.std.specs.Prelude.{◌≡◌, ℕ, List, []}
use Rattle.mf_check.specs.Families.{Code}
use Rattle.mf_places.specs.Servers.{no_servers}
use Rattle.mf_plain.specs.Resting.{Resting}
use Rattle.mf_vault.specs.Actor.{Actor}
use Rattle.mf_vault.specs.Conditions.{IsIdle, IsOfFamily}

-- the file is of the family and has these bytes; it isn't created, and no line has lost any of it
pub record IsFresh (c : Code) (content : List ℕ) (r : Resting) : Type 0 where
  pub family : IsOfFamily c.shape c.points r.book
  pub bytes : r.bytes ≡ content
  pub losses : r.losses ≡ []
  pub born : r.born ≡ 0

-- the actor may create the file of these bytes
pub record MayFill (c : Code) (content : List ℕ) (a : Actor) : Type 0 where
  pub idle : IsIdle a
  pub family : IsOfFamily c.shape c.points a.facts.book
  pub bytes : content ≡ a.facts.bytes
  pub reached : a.cut ≡ no_servers
