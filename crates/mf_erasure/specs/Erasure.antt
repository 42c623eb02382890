-- Lost places as a decoder has them: the data places that are lost, and as many parities that are had in their stead.
use Rattle.std.specs.Prelude.{ℕ, zero, suc, ◌≡◌, ◌⊎◌, ◌+◌, ◌<◌, ◌==◌, if◌then◌else◌, List, [], ◌∷◌, ◌++◌, length, map}
use Rattle.std.specs.Prelude.{slice_index, All, Contains}
use Rattle.std.specs.List.Sorted.{IsStrictlyIncreasing}
use Rattle.mf_code.specs.Field.{power}
use Rattle.mf_code.specs.Decodable.{IsPlaceSet, IsDecodableAt}
use Rattle.mf_matrix.specs.Tables.{OnlyZero}

-- The matrix of an erasure: a row for each parity that is kept, a column for each data place that is lost, and as entry
-- the parity's point to the power of the place.
abbrev pub entry : List ℕ → List ℕ → List ℕ → ℕ → ℕ → ℕ
entry points lost kept i j = power (slice_index points (slice_index kept i)) (slice_index lost j)

-- A list of places, in ascending order.
pub record IsPlaces (count : ℕ) (places : List ℕ) : Type 0 where
  pub rising : IsStrictlyIncreasing places
  pub below : All (λ place. place < count) places

-- An erasure of a stripe: as many lost data places as kept parities.
pub record IsErasure (width count : ℕ) (lost kept : List ℕ) : Type 0 where
  pub even : length lost ≡ length kept
  pub lost_places : IsPlaces width lost
  pub kept_places : IsPlaces count kept

-- Each number below count stands in just one of the two lists.
pub record IsComplement (count : ℕ) (ones others : List ℕ) : Type 0 where
  pub one_of : (p : ℕ) → p < count → Contains ones p ⊎ Contains others p
  pub apart : (p : ℕ) → Contains ones p → Contains others p → ⊥
  pub lengths : length ones + length others ≡ count
  pub ones_places : IsPlaces count ones
  pub others_places : IsPlaces count others

-- The numbers from `at` on, n of them, that do not stand in a rising list of such numbers.
unfoldable pub others_from : ℕ → ℕ → List ℕ → List ℕ
others_from at zero ones = []
others_from at (suc n) [] = at ∷ others_from (at + 1) n []
others_from at (suc n) (one ∷ ones) =
    if one == at then others_from (at + 1) n ones else at ∷ others_from (at + 1) n (one ∷ ones)

-- The places of a stripe: data places, and behind the data the places of parities.
abbrev pub places_of : ℕ → List ℕ → List ℕ → List ℕ
places_of width lost gone = lost ++ map (λ p. width + p) gone

-- The places of a stripe of this width are the lost data and all parities that are not kept.
pub record Splits (width count : ℕ) (places lost kept : List ℕ) : Type 0 where
  pub erasure : IsErasure width count lost kept
  pub data_in : (t : ℕ) → t < width → Contains places t → Contains lost t
  pub lost_in : (t : ℕ) → Contains lost t → Contains places t
  pub parity_out : (p : ℕ) → p < count → (Contains places (width + p) → ⊥) → Contains kept p
  pub kept_out : (p : ℕ) → Contains kept p → Contains places (width + p) → ⊥

-- A set of places is decodable just where the matrix of its erasure sends only the zero list to zero.
pub record DecodableByMatrix : Type 0 where
  pub only_zero : (width : ℕ) (points places lost kept : List ℕ) → Splits width (length points) places lost kept
      → IsDecodableAt points width places → OnlyZero (length lost) (entry points lost kept)
  pub decodable : (width : ℕ) (points places lost kept : List ℕ) → Splits width (length points) places lost kept
      → OnlyZero (length lost) (entry points lost kept) → IsDecodableAt points width places

-- A set of as many places as there are parities belongs to an erasure, and each erasure to such a set.
pub record SetsAreErasures : Type 0 where
  pub of_set : (width count : ℕ) (places : List ℕ) → IsPlaceSet (width + count) count places
      → (lost : List ℕ) × (gone : List ℕ) × (places ≡ places_of width lost gone)
      × Splits width count places lost (others_from 0 count gone)
  pub of_erasure : (width count : ℕ) (lost kept : List ℕ) → IsErasure width count lost kept
      → (places : List ℕ) × IsPlaceSet (width + count) count places × Splits width count places lost kept
