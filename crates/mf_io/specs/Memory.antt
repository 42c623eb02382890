-- A source and a sink in memory, as their callers see them.
use Rattle.std.specs.Prelude.{ℕ, ◌+◌, ◌-◌, ◌^◌, min, List}

-- the bytes that are left, how many a call gives at most, the numbers of the calls that fail, how many
-- calls were made, and how many of them failed
pub record Feed : Type 0 where
  pub left : List ℕ
  pub piece : ℕ
  pub fail : List ℕ
  pub calls : ℕ
  pub faults : ℕ

-- the bytes that were written, how many a call takes at most, the numbers of the calls that fail, how
-- many calls were made, and how many of them failed
pub record Store : Type 0 where
  pub written : List ℕ
  pub piece : ℕ
  pub fail : List ℕ
  pub calls : ℕ
  pub faults : ℕ

-- the next number, up to the greatest of 64 bits
abbrev pub next_count : ℕ → ℕ
next_count n = min (n + 1) (2 ^ 64 - 1)
