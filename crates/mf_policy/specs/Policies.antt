-- Thresholds of ages.
use Rattle.std.specs.Prelude.{◌≡◌, ℕ, ◌<◌, ◌≤◌, List, length, slice_index}
use Rattle.std.specs.List.Sorted.{IsStrictlyIncreasing}

-- They begin with 0, each is below the next, and a stage's number fits in 32 bits.
pub record IsPolicy (thresholds : List ℕ) : Type 0 where
  pub some : 0 < length thresholds
  pub first : slice_index thresholds 0 ≡ 0
  pub rise : IsStrictlyIncreasing thresholds
  pub few : length thresholds ≤ 4294967295
