-- What a crash at any moment of a run of calls leaves.
use Rattle.std.specs.Prelude.{ℕ, ◌≤◌, ◌⊎◌, List}

-- A crash at any moment since old leaves bytes that have P.
pub record AnyMoment {D : Type 0} (calls : D → ℕ) (left_since : D → ℕ → List ℕ → Type 0)
    (old new : D) (P : List ℕ → Type 0) : Type 0 where
  pub later : calls old ≤ calls new
  pub each : (c : List ℕ) → left_since new (calls old) c → P c
  -- for a run that began earlier
  pub before : (t : ℕ) (c : List ℕ) → t ≤ calls old → left_since new t c → left_since old t c ⊎ P c
