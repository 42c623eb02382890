-- What decoding in one call gives, and rows of coefficients that are kept for it.
use Rattle.std.specs.Prelude.{List, [], ◌++◌, ℕ, ◌≡◌, ◌+◌, ◌*◌, ◌<◌, All, Option, length, slice_index, slice_index_or}
use Rattle.std.specs.Prelude.{slice_range}
use Rattle.mf_decode.specs.Columns.{present}
use Rattle.mf_decode.specs.Decoding.{Plan, IsDecodedAt}
use Rattle.mf_decode.specs.Rows.{IsDecodingRow}
use Rattle.mf_kernel.specs.Dots.{combined}
use Rattle.morph_codes.specs.Handed.{HasLost}

-- Row e of rows that stand one behind the other, with n coefficients each.
abbrev pub row_at : ℕ → List ℕ → ℕ → List ℕ
row_at n rows e = slice_range rows (e * n) (e * n + n)

-- The rows are those of the plan's erased pieces, of a stripe of `count` pieces.
pub record AreDecodingRows (plan : Plan) (count : ℕ) (rows : List ℕ) : Type 0 where
  pub long : length rows ≡ length plan.erased * count
  pub row : (e : ℕ) → e < length plan.erased → IsDecodingRow plan e count (row_at count rows e)

-- Each room has the sum of the pieces by its row, as many as there were rooms.
pub record AreSums (count : ℕ) (rows : List ℕ) (size : ℕ) (pieces rooms : List (List ℕ)) : Type 0 where
  pub len : length rooms ≡ count
  pub sum : (q : ℕ) → q < count
      → slice_index_or rooms q [] ≡ combined size pieces (row_at (length pieces) rows q)

-- The rooms have the plan's erased pieces, by `size` bytes each: byte x of each is the one that agrees with what is
-- left of the stripe, which is the plan's parities and then the pieces that are there.
pub record AreDecoded (plan : Plan) (count size : ℕ) (left rooms : List (List ℕ)) : Type 0 where
  pub len : length rooms ≡ length plan.erased
  pub sizes : (e : ℕ) → e < length plan.erased → length (slice_index_or rooms e []) ≡ size
  pub byte : (pieces : List (Option (List ℕ))) (parities : List (List ℕ)) → HasLost count plan.erased pieces
      → length parities ≡ length plan.parities → All (λ chunk. All (λ b. b < 256) chunk) parities
      → left ≡ parities ++ present pieces → (e x : ℕ) → e < length plan.erased → x < size
      → IsDecodedAt plan pieces parities x (slice_index plan.erased e)
      (slice_index (slice_index_or rooms e []) x)
