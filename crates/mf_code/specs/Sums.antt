-- Sums of bytes, which are exclusive ors.
use Rattle.std.specs.Prelude.{ℕ, zero, suc, ◌+◌, ◌-◌, List, length, slice_index, bit_xor}
use Rattle.mf_code.specs.Field.{times, power}

-- The sum of f 0, f 1 and so on, n of them. It is 0 where n is 0.
unfoldable pub sum_below : ℕ → (ℕ → ℕ) → ℕ
sum_below zero f = 0
sum_below (suc n) f = bit_xor (sum_below n f) (f n)

-- The sum of f t over the t with low ≤ t < high.
abbrev pub sum_between : ℕ → ℕ → (ℕ → ℕ) → ℕ
sum_between low high f = sum_below (high - low) (λ i. f (low + i))

-- The sum of a list by a point: of point ^ i times byte i. It is the one byte of a parity over columns of one byte.
abbrev pub weighted : ℕ → List ℕ → ℕ
weighted point xs = sum_below (length xs) (λ i. times (power point i) (slice_index xs i))
