-- How one byte is decoded, and the rows of coefficients that decode whole chunks.
use Rattle.std.specs.Prelude.{ℕ, ◌+◌, List, [], ◌∷◌, ◌++◌, length, map, slice_index, Option, Some, None, unwrap_or}
use Rattle.mf_code.specs.Field.{times, power}
use Rattle.mf_code.specs.Sums.{sum_below}
use Rattle.mf_code.specs.Rows.{list_of}
use Rattle.mf_matrix.specs.Matrix.{Grid, entry as entry_of}

-- The bytes that are there, and 0 for the others.
abbrev pub there : List (Option ℕ) → List ℕ
there bytes = map (λ o. unwrap_or o 0) bytes

-- The weight of piece t in an erased chunk: the sum, over the parities j, of entry j of the chunk's row of the inverse
-- times point j to the power of t.
abbrev pub weight_of : List ℕ → List ℕ → ℕ → ℕ
weight_of row points t = sum_below (length points) (λ j. times (slice_index row j) (power (slice_index points j) t))

-- The entries of row e.
abbrev pub row_entries : Grid → ℕ → List ℕ
row_entries m e = list_of m.columns (entry_of m e)

-- What is there, in order.
abbrev pub present : {A : Type 0} → List (Option A) → List A
present [] = []
present (Some x ∷ xs) = x ∷ present xs
present (None ∷ xs) = present xs

-- The weights of the pieces that are there, counted from t on.
abbrev pub weights_from : {A : Type 0} → List ℕ → List ℕ → ℕ → List (Option A) → List ℕ
weights_from row points t [] = []
weights_from row points t (Some x ∷ xs) = weight_of row points t ∷ weights_from row points (t + 1) xs
weights_from row points t (None ∷ xs) = weights_from row points (t + 1) xs

-- The coefficients of the parities, and then of the pieces that are there, in the e-th erased chunk.
abbrev pub decode_row : {A : Type 0} → Grid → List ℕ → List (Option A) → ℕ → List ℕ
decode_row m points pieces e = row_entries m e ++ weights_from (row_entries m e) points 0 pieces
