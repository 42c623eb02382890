-- Rows of coefficients that decode.
use Rattle.std.specs.Prelude.{ℕ, ◌≡◌, ◌<◌, List, ◌++◌, length, slice_index, Option, All, IfSome}
use Rattle.mf_code.specs.Rows.{column}
use Rattle.mf_kernel.specs.Dots.{dot}
use Rattle.mf_decode.specs.Decoding.{Plan, IsDecodedAt, gaps_from}
use Rattle.mf_decode.specs.Columns.{present}

-- The row gives each byte of the plan's e-th erased chunk, of each stripe of `count` pieces that has lost what the plan
-- says: as the sum of the bytes of its parities, and then of the pieces that are there.
pub record IsDecodingRow (plan : Plan) (e count : ℕ) (row : List ℕ) : Type 0 where
  pub decodes : (pieces : List (Option (List ℕ))) (parities : List (List ℕ)) → length pieces ≡ count
      → gaps_from 0 pieces ≡ plan.erased → length parities ≡ length plan.parities
      → All (λ piece. IfSome piece (λ chunk. All (λ b. b < 256) chunk)) pieces
      → All (λ chunk. All (λ b. b < 256) chunk) parities
      → (length row ≡ length (parities ++ present pieces))
      × ((x : ℕ) → IsDecodedAt plan pieces parities x (slice_index plan.erased e)
      (dot row (column x (parities ++ present pieces))))
