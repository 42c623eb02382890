-- What a decoding is: the one data list that agrees with what was handed in.
use Rattle.std.specs.Prelude.{ℕ, ◌≡◌, ◌+◌, List, [], ◌∷◌, length, map, slice_index, slice_get, Option, Some, None}
use Rattle.std.specs.Option.{option_map}
use Rattle.mf_code.specs.Sums.{weighted}
use Rattle.mf_code.specs.Rows.{column}
use Rattle.mf_code.specs.Decodable.{IsData}
use Rattle.mf_decode.specs.Stripes.{IsDataList, parity_of}

-- A plan: of stripes of this width with these points, the places of the erased data, and the numbers of the parities
-- that are had in their stead.
pub record Plan : Type 0 where
  pub points : List ℕ
  pub width : ℕ
  pub erased : List ℕ
  pub parities : List ℕ

-- The points of the plan's parities, in order.
abbrev pub points_of : Plan → List ℕ
points_of plan = map (λ p. slice_index plan.points p) plan.parities

-- The places at which nothing stands, counted from t on.
abbrev pub gaps_from : {A : Type 0} → ℕ → List (Option A) → List ℕ
gaps_from t [] = []
gaps_from t (Some x ∷ xs) = gaps_from (t + 1) xs
gaps_from t (None ∷ xs) = t ∷ gaps_from (t + 1) xs

-- The list whose gaps are filled in order; `other` stands where the fillings end.
abbrev pub filled : {A : Type 0} → A → List (Option A) → List A → List A
filled other [] fillings = []
filled other (Some x ∷ xs) fillings = x ∷ filled other xs fillings
filled other (None ∷ xs) [] = other ∷ filled other xs []
filled other (None ∷ xs) (y ∷ fillings) = y ∷ filled other xs fillings

-- A data list of chunks of `size` bytes agrees with what was handed in: each piece that is there is its chunk, and the
-- parities are its parities.
pub record Agrees (plan : Plan) (size : ℕ) (pieces : List (Option (List ℕ))) (parities : List (List ℕ))
    (list : List (List ℕ)) : Type 0 where
  pub list_is : IsDataList (length pieces) size list
  pub pieces_are : (t : ℕ) (chunk : List ℕ) → slice_get pieces t ≡ Some (Some chunk) → slice_get list t ≡ Some chunk
  pub parities_are : parities ≡ map (λ point. parity_of size point list) (points_of plan)

-- Byte x of each piece that is there.
abbrev pub column_of : ℕ → List (Option (List ℕ)) → List (Option ℕ)
column_of x pieces = map (λ o. option_map (λ chunk. slice_index chunk x) o) pieces

-- The same for one column: a list of data bytes agrees with the bytes that are there, and its parities with these
-- points are the parity bytes.
pub record AgreesInColumn (points : List ℕ) (bytes : List (Option ℕ)) (parities : List ℕ) (list : List ℕ) : Type 0 where
  pub list_is : IsData (length bytes) list
  pub pieces_are : (t b : ℕ) → slice_get bytes t ≡ Some (Some b) → slice_get list t ≡ Some b
  pub parities_are : parities ≡ map (λ point. weighted point list) points

-- b is byte t of the one list of data bytes that agrees with column x of what was handed in.
pub record IsDecodedAt (plan : Plan) (pieces : List (Option (List ℕ))) (parities : List (List ℕ)) (x t b : ℕ)
    : Type 0 where
  pub agreeing : (list : List ℕ) × AgreesInColumn (points_of plan) (column_of x pieces) (column x parities) list
  pub only : (list : List ℕ) → AgreesInColumn (points_of plan) (column_of x pieces) (column x parities) list
      → slice_index list t ≡ b
