-- One number below a bound with a property, and no other.
use Rattle.std.specs.Prelude.{ℕ, ◌≡◌, ◌<◌}

-- some x below n has P, and each one below n that has P is this x
pub record OneBelow (n : ℕ) (P : ℕ → Type 0) : Type 0 where
  pub it : ℕ
  pub below : it < n
  pub has : P it
  pub only : (y : ℕ) → y < n → P y → y ≡ it
