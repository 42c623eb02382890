-- The faults of points: where each comes.
use Rattle.std.specs.Prelude.{ℕ, ◌≡◌, ◌≢◌, ◌+◌, ◌-◌, ◌^◌, ◌<◌, ◌⊎◌, min, List, length, slice_index}
use Rattle.mf_shape.specs.declared.Stage.{Stage}
use Rattle.mf_shape.specs.Stages.{width_at, parities_at}
use Rattle.mf_code.specs.Decodable.{IsPlaceSet, IsDecodableAt}
use Rattle.mf_check.specs.declared.FamilyFault.{FamilyFault}
use Rattle.mf_check.specs.declared.FamilyFault.TheVariants.{PointCount, PointZero, PointTwice, Undecodable, Memory}
use Rattle.mf_check.specs.Sets.{IsBefore, IsKernelOfSet}
use Rattle.mf_check.specs.Families.{ArePoints, IsStageDecodable, stage_points}

-- Point i is 0, and none before it.
pub record IsFirstZero (points : List ℕ) (i : ℕ) : Type 0 where
  pub within : i < length points
  pub zero_here : slice_index points i ≡ 0
  pub none_before : (j : ℕ) → j < i → slice_index points j ≢ 0

-- Points i < j are equal, and no pair before this one, by the first number and then by the second, is.
pub record IsFirstPair (points : List ℕ) (i j : ℕ) : Type 0 where
  pub ordered : i < j
  pub within : j < length points
  pub equal : slice_index points i ≡ slice_index points j
  pub none_before : (a b : ℕ) → a < b → b < length points → (a < i) ⊎ ((a ≡ i) × (b < j))
      → slice_index points a ≢ slice_index points b

-- Stage g is the least with a set that isn't decodable, the set is its first one in order, and this is the set's kernel
-- list.
pub record IsUndecodable (stages : List Stage) (points : List ℕ) (g : ℕ) (places kernel : List ℕ) : Type 0 where
  pub stage : g < length stages
  pub before : (h : ℕ) → h < g → IsStageDecodable stages points h
  pub set : IsPlaceSet (width_at stages g + parities_at stages g) (parities_at stages g) places
  pub undecodable : IsDecodableAt (stage_points stages points g) (width_at stages g) places → ⊥
  pub first : (s : List ℕ) → IsPlaceSet (width_at stages g + parities_at stages g) (parities_at stages g) s
      → IsBefore s places → IsDecodableAt (stage_points stages points g) (width_at stages g) s
  pub kernel_list : IsKernelOfSet (stage_points stages points g) (width_at stages g) places kernel

-- The points, of which there are to be `count`, have this fault, and none that is tried before it. PointCount tells
-- their number, as far as 32 bits reach.
abbrev pub IsPointFault : ℕ → List ℕ → FamilyFault → Type 0
IsPointFault count points (PointCount n) = (length points ≢ count) × (n ≡ min (length points) (2 ^ 32 - 1))
IsPointFault count points (PointZero i) = (length points ≡ count) × IsFirstZero points i
IsPointFault count points (PointTwice i j) =
    (length points ≡ count) × ((k : ℕ) → k < count → slice_index points k ≢ 0) × IsFirstPair points i j
IsPointFault count points (Undecodable g places kernel) = ⊥
IsPointFault count points Memory = ⊥

-- Where each fault comes. Want of memory may come at any points.
abbrev pub IsFault : List Stage → List ℕ → FamilyFault → Type 0
IsFault stages points (PointCount n) = IsPointFault (parities_at stages 0) points (PointCount n)
IsFault stages points (PointZero i) = IsPointFault (parities_at stages 0) points (PointZero i)
IsFault stages points (PointTwice i j) = IsPointFault (parities_at stages 0) points (PointTwice i j)
IsFault stages points (Undecodable g places kernel) =
    ArePoints (parities_at stages 0) points × IsUndecodable stages points g places kernel
IsFault stages points Memory = Unit {0}
