-- Rules on lists of bytes, byte by byte.
use Rattle.std.specs.Prelude.{ℕ, List, map, slice_index, bit_xor}
use Rattle.std.specs.List.{range_with_len}
use lib.Lanes.{zip2}
use Rattle.mf_code.specs.Field.{times}
use Rattle.mf_code.specs.Sums.{weighted}

-- The list of f 0, f 1 and so on, n of them.
abbrev pub list_of : ℕ → (ℕ → ℕ) → List ℕ
list_of n f = map f (range_with_len 0 n)

-- Each byte of ys with the byte of xs at its index added, for lists of one length.
abbrev pub added : List ℕ → List ℕ → List ℕ
added ys xs = zip2 bit_xor ys xs

-- c times each byte of xs.
abbrev pub scaled : ℕ → List ℕ → List ℕ
scaled c xs = map (times c) xs

-- Each byte of ys with c times the byte of xs at its index added, for lists of one length.
abbrev pub added_scaled : List ℕ → ℕ → List ℕ → List ℕ
added_scaled ys c xs = zip2 (λ y x. bit_xor y (times c x)) ys xs

-- Byte x of each list of a list of lists, in turn.
abbrev pub column : ℕ → List (List ℕ) → List ℕ
column x lists = map (λ xs. slice_index xs x) lists

-- The sum of lists of n bytes by a point: byte x is the sum, by the point, of the bytes x of the lists.
abbrev pub weighted_lists : ℕ → ℕ → List (List ℕ) → List ℕ
weighted_lists n point lists = list_of n (λ x. weighted point (column x lists))
