-- A stripe: its data chunks and its parities.
use Rattle.std.specs.Prelude.{ℕ, ◌≡◌, ◌<◌, List, Option, Some, length, slice_index, slice_get, All, IfSome}
use Rattle.mf_code.specs.Rows.{weighted_lists}

-- What answers are given from: chunks of `size` bytes, `count` pieces of data, and a parity for each of the points.
-- `pieces` is the data list with which the answers agree, where there is one.
pub record Stripe : Type 0 where
  pub size : ℕ
  pub points : List ℕ
  pub count : ℕ
  pub pieces : Option (List (List ℕ))

-- A chunk of `size` bytes.
pub record IsChunk (size : ℕ) (chunk : List ℕ) : Type 0 where
  pub len : length chunk ≡ size
  pub bytes : All (λ b. b < 256) chunk

-- A data list: `count` chunks of `size` bytes.
pub record IsDataList (count size : ℕ) (list : List (List ℕ)) : Type 0 where
  pub len : length list ≡ count
  pub chunks : All (IsChunk size) list

-- The parity with this point of a data list of chunks of `size` bytes.
abbrev pub parity_of : ℕ → ℕ → List (List ℕ) → List ℕ
parity_of size point list = weighted_lists size point list

-- The chunk is of the stripe's size, and it is piece t of the data list.
pub record IsPiece (stripe : Stripe) (t : ℕ) (chunk : List ℕ) : Type 0 where
  pub len : length chunk ≡ stripe.size
  pub agrees : IfSome stripe.pieces (λ list. slice_get list t ≡ Some chunk)

-- The chunk is of the stripe's size, and it is parity p of the data list.
pub record IsParity (stripe : Stripe) (p : ℕ) (chunk : List ℕ) : Type 0 where
  pub len : length chunk ≡ stripe.size
  pub agrees : IfSome stripe.pieces (λ list. chunk ≡ parity_of stripe.size (slice_index stripe.points p) list)
