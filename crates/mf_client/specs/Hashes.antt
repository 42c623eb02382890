-- A hasher, and what it holds.
use Rattle.std.specs.Prelude.{ℕ, List}
use Rattle.std.specs.Coded.{coded_ℕ, Coded-set}
use mathlib.Core.HLevel.{×_prop}
use mathlib.Core.List.{is_set}
use Rattle.sha2.specs.declared.Sha256.{Sha256}
use Rattle.sha2.specs.Sha256.{Holds}
use Rattle.sha2.specs.Hashers.{Holds256}

ℕ_set : IsSet ℕ
ℕ_set = Coded-set coded_ℕ

-- that a hasher holds these bytes has one proof
pub holds_prop : (hasher : Sha256) (bytes : List ℕ) → IsProp (Holds256 hasher bytes)
unfolding Holds
holds_prop hasher bytes = ×_prop (ℕ_set _ _) (×_prop (is_set ℕ_set _ _) (is_set ℕ_set _ _))
