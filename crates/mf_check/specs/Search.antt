-- What private functions of the search cite.
use Rattle.std.specs.Prelude.{ℕ, ◌≡◌, ◌+◌, ◌<◌, ◌≤◌, Option, Some, None, List, length, slice_index}
use Rattle.std.specs.List.Sorted.{IsStrictlyIncreasing}
use Rattle.std.specs.Prelude.{Vec}
use Rattle.std.specs.Global.{Global}
use Rattle.mf_code.specs.Decodable.{IsPlaceSet, IsDecodableAt, IsDecodable}
use Rattle.mf_check.specs.Sets.{IsBefore, IsKernelOfSet}

-- What the matrix of a set says: the set is decodable, or it isn't, and this is its kernel list.
abbrev pub SetAnswer : List ℕ → ℕ → List ℕ → Option (List ℕ) → Type 0
SetAnswer points width places None = IsDecodableAt points width places
SetAnswer points width places (Some kernel) =
    (IsDecodableAt points width places → ⊥) × IsKernelOfSet points width places kernel

-- The numbers of p are the front of a set of places below n, and `from` is above them.
pub record IsFront (n size from : ℕ) (p : List ℕ) : Type 0 where
  pub short : length p ≤ size
  pub ascending : IsStrictlyIncreasing p
  pub below : (i : ℕ) → i < length p → slice_index p i < from
  pub fits : from ≤ n

-- The set s begins with the numbers of p, and goes on with numbers from `from` on.
pub record Continues (p : List ℕ) (from : ℕ) (s : List ℕ) : Type 0 where
  pub begins : (i : ℕ) → i < length p → slice_index s i ≡ slice_index p i
  pub rest : (i : ℕ) → length p ≤ i → i < length s → from ≤ slice_index s i

-- Every set that continues p from `from` on is decodable, as far as it fulfils Where.
pub record AllDecodable (points : List ℕ) (width : ℕ) (p : List ℕ) (from : ℕ) (Where : List ℕ → Type 0) : Type 0 where
  pub each : (s : List ℕ) → IsPlaceSet (width + length points) (length points) s → Continues p from s
      → Where s → IsDecodableAt points width s

-- The set is the first one that continues p from `from` on and isn't decodable, and this is its kernel list.
pub record IsFirstUndecodable (points : List ℕ) (width : ℕ) (p : List ℕ) (from : ℕ) (places kernel : List ℕ)
    : Type 0 where
  pub set : IsPlaceSet (width + length points) (length points) places
  pub continues : Continues p from places
  pub undecodable : IsDecodableAt points width places → ⊥
  pub kernel_list : IsKernelOfSet points width places kernel
  pub first : AllDecodable points width p from (λ s. IsBefore s places)

-- What the search answers, and the places that it leaves.
abbrev pub SearchAnswer : List ℕ → ℕ → List ℕ → ℕ → List ℕ → Option (List ℕ) → Type 0
SearchAnswer points width p from places None = (places ≡ p) × AllDecodable points width p from (λ s. Unit {0})
SearchAnswer points width p from places (Some kernel) = IsFirstUndecodable points width p from places kernel

-- The first e places are data places, and the others aren't.
pub record IsDataFront (width : ℕ) (places : List ℕ) (e : ℕ) : Type 0 where
  pub within : e ≤ length places
  pub data_places : (i : ℕ) → i < e → slice_index places i < width
  pub others : e < length places → width ≤ slice_index places e

-- What a stage's search answers: every set is decodable, or this is the first one that isn't, and its kernel list.
abbrev pub StageAnswer : List ℕ → ℕ → Option (Vec ℕ Global × List ℕ) → Type 0
StageAnswer points width None = IsDecodable points width
StageAnswer points width (Some found) =
    IsPlaceSet (width + length points) (length points) found.0.items
    × (IsDecodableAt points width found.0.items → ⊥)
    × ((s : List ℕ) → IsPlaceSet (width + length points) (length points) s → IsBefore s found.0.items
    → IsDecodableAt points width s)
    × IsKernelOfSet points width found.0.items found.1
