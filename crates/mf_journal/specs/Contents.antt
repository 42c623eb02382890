-- Two lists that differ in one part at most.
use Rattle.std.specs.Prelude.{◌≡◌, ℕ, ◌≤◌, List, length, take, drop}

-- of one length, the same in front of `low` and from `high` on
pub record AreSameOutside (low high : ℕ) (a b : List ℕ) : Type 0 where
  pub size : length b ≡ length a
  pub front : take low a ≡ take low b
  pub end : drop high a ≡ drop high b
  pub within : high ≤ length a
