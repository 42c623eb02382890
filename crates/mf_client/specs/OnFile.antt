-- A command on one of the files.
use Rattle.std.specs.Prelude.{◌≡◌, ℕ, List, slice_get, slice_set, Some}
use Rattle.mf_vault.specs.Actor.{Actor}

-- a command on this file took its actor from one to the other, and left the actors of the other files as they were
pub record OnFile (file : ℕ) (Goes : Actor → Actor → Type 0) (before after : List Actor) : Type 0 where
  pub old : Actor
  pub new : Actor
  pub was : slice_get before file ≡ Some old
  pub goes : Goes old new
  pub is : after ≡ slice_set before file new
