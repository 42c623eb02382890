-- Pieces of any kind, seen as their lists of bytes.
use Rattle.std.proofs.Common.{◌≡◌, ℕ, ◌+◌, ◌*◌, ◌<◌, ◌≤◌, List, All, length, map, get_or, sym, ap, ◌∙◌, arith}
use Rattle.std.proofs.lemmas.List.{length-map, get_or-map, map-id}
use Rattle.mf_code.specs.Field.{times, power}
use Rattle.mf_code.specs.Sums.{weighted}
use Rattle.mf_code.specs.Rows.{list_of, column}
use Rattle.mf_code.proofs.Sums.{sum_below-same}
use Rattle.mf_code.proofs.Lists.{list_of-same}
use Rattle.mf_kernel.specs.Dots.{dot, dot_powers}

module _ {A : Type 0} (list : A → List ℕ) (pieces : List A) where
  pub length-lists : length (map list pieces) ≡ length pieces
  length-lists = length-map pieces list

  -- the bytes of a piece among all
  pub list_at : (t : ℕ) (piece : A) → t < length pieces → piece ≡ get_or pieces t piece
      → list piece ≡ get_or (map list pieces) t (list piece)
  list_at t piece lt is = ap list is ∙ sym (get_or-map list pieces t piece (list piece) lt)

  -- a piece has the columns that each has
  pub long_at : (t n : ℕ) (piece : A) → t < length pieces → piece ≡ get_or pieces t piece
      → All (λ xs. n ≤ length xs) (map list pieces) → n ≤ length (list piece)
  long_at t n piece lt is all =
      let long = all t (list piece) (omega (arith, length-lists)) in
      omega (arith, long, ap length (list_at t piece lt is))

-- chunks are their bytes
pub of_chunks : (n start step point : ℕ) (chunks : List (List ℕ)) (made : List ℕ) (f : ℕ → ℕ)
    → made ≡ list_of n (λ x. dot_powers step point (column (start + x) (map (λ c. c) chunks)))
    → ((x : ℕ) → dot_powers step point (column (start + x) chunks) ≡ f x) → made ≡ list_of n f
of_chunks n start step point chunks made f are is =
    are
    ∙ ap (λ (l : List (List ℕ)). list_of n (λ x. dot_powers step point (column (start + x) l))) (map-id chunks)
    ∙ list_of-same n (λ x. dot_powers step point (column (start + x) chunks)) f (λ x lt. is x)

-- a block of the sum of chunks by a row
pub of_block : (n start : ℕ) (row : List ℕ) (chunks : List (List ℕ)) (made : List ℕ)
    → made ≡ list_of n (λ x. dot row (column (start + x) (map (λ c. c) chunks)))
    → made ≡ list_of n (λ x. dot row (column (start + x) chunks))
of_block n start row chunks made are = are
    ∙ ap (λ (l : List (List ℕ)). list_of n (λ x. dot row (column (start + x) l))) (map-id chunks)

-- by the powers 0, 1 and so on it is the sum by the point
pub weighted_is : (point : ℕ) (xs : List ℕ) → dot_powers 1 point xs ≡ weighted point xs
weighted_is point xs = sum_below-same (length xs) (λ t. times (power point (t * 1)) (get_or xs t 0))
    (λ t. times (power point t) (get_or xs t 0))
    (λ t lt. ap (λ (n : ℕ). times (power point n) (get_or xs t 0)) (let e : t * 1 ≡ t = omega arith in e))
