-- When a stripe bears the loss of any r of its places.
use Rattle.std.specs.Prelude.{ℕ, ◌≡◌, ◌+◌, ◌<◌, List, ◌++◌, length, map, slice_index, All, Contains}
use Rattle.std.specs.List.Sorted.{IsStrictlyIncreasing}
use Rattle.mf_code.specs.Sums.{weighted}

-- The codeword of a list of data bytes: the data, followed by one parity byte for each point.
abbrev pub codeword : List ℕ → List ℕ → List ℕ
codeword points given = given ++ map (λ point. weighted point given) points

-- A list of data bytes for this width.
pub record IsData (width : ℕ) (given : List ℕ) : Type 0 where
  pub len : length given ≡ width
  pub bytes : All (λ b. b < 256) given

-- A set of `size` places among the places below `count`, in ascending order.
pub record IsPlaceSet (count size : ℕ) (places : List ℕ) : Type 0 where
  pub len : length places ≡ size
  pub ascending : IsStrictlyIncreasing places
  pub below : All (λ place. place < count) places

-- Two codewords have the same byte at each place outside the set.
abbrev pub AgreeOutside : List ℕ → List ℕ → List ℕ → Type 0
AgreeOutside places u v = (i : ℕ) → i < length u → ¬ Contains places i → slice_index u i ≡ slice_index v i

-- The set of places is decodable: data lists whose codewords agree outside the set are equal.
pub record IsDecodableAt (points : List ℕ) (width : ℕ) (places : List ℕ) : Type 0 where
  pub one : (d e : List ℕ) → IsData width d → IsData width e
      → AgreeOutside places (codeword points d) (codeword points e) → d ≡ e

-- Stripes of this width with one parity for each point: every set of as many places as there are points is decodable.
pub record IsDecodable (points : List ℕ) (width : ℕ) : Type 0 where
  pub each : (places : List ℕ) → IsPlaceSet (width + length points) (length points) places
      → IsDecodableAt points width places
