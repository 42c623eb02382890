-- Merging parities of narrow stripes.
use Rattle.std.specs.Prelude.{ℕ, ◌*◌, List, [], length, slice_index, slice_index_or}
use Rattle.mf_code.specs.Field.{times, power}
use Rattle.mf_code.specs.Sums.{sum_below}
use Rattle.mf_code.specs.Rows.{column}

-- How many bytes the first of the parities has.
abbrev pub first_length : List (List ℕ) → ℕ
first_length parities = length (slice_index_or parities 0 [])

-- Byte x of the merged parity: the sum, over the parities b, of point ^ (b * width) times byte x of
-- parity b.
abbrev pub merged_byte : ℕ → ℕ → List (List ℕ) → ℕ → ℕ
merged_byte point width parities x =
    sum_below (length parities)
    (λ b. times (power point (b * width)) (slice_index (column x parities) b))
