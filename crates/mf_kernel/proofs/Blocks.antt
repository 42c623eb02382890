-- A block of columns of a sum of scaled pieces, added up piece by piece.
use Rattle.std.proofs.Common.{◌≡◌, ℕ, ◌+◌, ◌-◌, ◌<◌, ◌≤◌, List, length, get_or, take, drop, replicate, bit_xor, sym, ap}
use Rattle.std.proofs.Common.{ap₂, ◌∙◌, arith}
use Rattle.std.proofs.lemmas.List.{length-map, length-take, length-drop, length-replicate, get_or-map, get_or-take}
use Rattle.std.proofs.lemmas.List.{get_or-drop, get_or-replicate}
use Rattle.std.proofs.lemmas.Simd.{length-zip2, get_or-zip2}
use Rattle.mf_code.specs.Field.{times}
use Rattle.mf_code.specs.Rows.{column, added_scaled}
use Rattle.mf_code.specs.Sums.{sum_below}
use Rattle.mf_code.proofs.Sums.{sum_below-none, sum_below-more}

pub length-column : (x : ℕ) (pieces : List (List ℕ)) → length (column x pieces) ≡ length pieces
length-column x pieces = length-map pieces (λ (xs : List ℕ). get_or xs x 0)

-- a piece's byte in its column
pub column_at : (x : ℕ) (pieces : List (List ℕ)) (t : ℕ) (piece : List ℕ) → t < length pieces
    → piece ≡ get_or pieces t piece
    → get_or (column x pieces) t 0 ≡ get_or piece x 0
column_at x pieces t piece lt is =
    get_or-map (λ (xs : List ℕ). get_or xs x 0) pieces t piece 0 lt ∙ ap (λ (xs : List ℕ). get_or xs x 0) (sym is)

-- n columns of a piece from `start` on
pub length-columns : (start n : ℕ) (bytes : List ℕ) → start + n ≤ length bytes
    → length (take ((start + n) - start) (drop start bytes)) ≡ n
length-columns start n bytes within = simp (length-take, length-drop) (omega arith)

pub columns_at : (start n : ℕ) (bytes : List ℕ) (x : ℕ) → x < n
    → get_or (take ((start + n) - start) (drop start bytes)) x 0 ≡ get_or bytes (start + x) 0
columns_at start n bytes x lt = get_or-take ((start + n) - start) (drop start bytes) x 0 (omega arith)
    ∙ get_or-drop start bytes x 0

module _ (scale : ℕ → ℕ) where
  -- the sum of the first n bytes of a column, each times the scale of its place
  abbrev pub scaled_sum : ℕ → List ℕ → ℕ
  scaled_sum n xs = sum_below n (λ i. times (scale i) (get_or xs i 0))

  -- zero bytes are the sums over no piece
  pub block_none : (zeros : List ℕ) (n start : ℕ) (pieces : List (List ℕ)) → zeros ≡ replicate n 0
      → (x : ℕ) → x < length zeros → get_or zeros x 0 ≡ scaled_sum 0 (column (start + x) pieces)
  block_none zeros n start pieces are x lt =
      let long : length zeros ≡ n = ap length are ∙ length-replicate n 0 in
      ap (λ (ys : List ℕ). get_or ys x 0) are ∙ get_or-replicate n x 0 0 (omega arith)
      ∙ sym (sum_below-none (λ i. times (scale i) (get_or (column (start + x) pieces) i 0)))

  -- one more piece, scaled and added
  pub block_more : (out after : List ℕ) (factor start t : ℕ) (pieces : List (List ℕ)) (piece bytes : List ℕ)
      → t < length pieces → piece ≡ get_or pieces t piece → bytes ≡ piece → start + length out ≤ length bytes
      → factor ≡ scale t
      → after ≡ added_scaled out factor (take ((start + length out) - start) (drop start bytes))
      → ((x : ℕ) → x < length out → get_or out x 0 ≡ scaled_sum t (column (start + x) pieces))
      → (x : ℕ) → x < length after → get_or after x 0 ≡ scaled_sum (t + 1) (column (start + x) pieces)
  block_more out after factor start t pieces piece bytes lt is same within factor_is are so_far x below =
      let n = length out in
      let part = take ((start + n) - start) (drop start bytes) in
      let part_long : length part ≡ n = length-columns start n bytes within in
      let long : length after ≡ n = ap length are
      ∙ length-zip2 (λ y z. bit_xor y (times factor z)) out part (sym part_long) in
      let here : x < n = omega arith in
      let byte : get_or part x 0 ≡ get_or (column (start + x) pieces) t 0 =
      columns_at start n bytes x here ∙ ap (λ (ys : List ℕ). get_or ys (start + x) 0) same
      ∙ sym (column_at (start + x) pieces t piece lt is) in
      ap (λ (ys : List ℕ). get_or ys x 0) are
      ∙ get_or-zip2 (λ y z. bit_xor y (times factor z)) out part x 0 0 0 here (omega arith)
      ∙ ap₂ bit_xor (so_far x here) (ap₂ times factor_is byte)
      ∙ sym (sum_below-more t (λ i. times (scale i) (get_or (column (start + x) pieces) i 0)))
