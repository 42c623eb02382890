-- Tables of 16 entries, for lanes.
use Rattle.std.specs.Prelude.{ℕ, ◌≡◌, ◌+◌, ◌*◌, ◌^◌, ◌<◌, ◌≤◌, List, [], ◌∷◌, length, slice_index, bit_xor}
use Rattle.mf_code.specs.Field.{times}

-- Two copies of f 0 to f 15.
pub record IsTable (f : ℕ → ℕ) (table : List ℕ) : Type 0 where
  pub long : length table ≡ 32
  pub at : (copy n : ℕ) → copy < 2 → n < 16 → slice_index table (16 * copy + n) ≡ f n

-- The sums of the four bytes: entry n has those at whose places n has a one.
abbrev pub entries : ℕ → ℕ → ℕ → ℕ → List ℕ
entries a b c d =
    0 ∷ a ∷ b ∷ bit_xor b a ∷ c ∷ bit_xor c a ∷ bit_xor c b ∷ bit_xor c (bit_xor b a)
    ∷ d ∷ bit_xor d a ∷ bit_xor d b ∷ bit_xor d (bit_xor b a)
    ∷ bit_xor d c ∷ bit_xor (bit_xor d c) a ∷ bit_xor (bit_xor d c) b ∷ bit_xor (bit_xor d c) (bit_xor b a) ∷ []

-- The tables of a row, 32 entries for each coefficient: its products with 0 to 15, and with 16 times these.
pub record AreTables (row tables : List ℕ) : Type 0 where
  pub long : length row * 32 ≤ length tables
  pub lower : (t n : ℕ) → t < length row → n < 16 → slice_index tables (t * 32 + n) ≡ times (slice_index row t) n
  pub upper : (t n : ℕ) → t < length row → n < 16
      → slice_index tables (t * 32 + 16 + n) ≡ times (slice_index row t) (n * 2 ^ 4)
