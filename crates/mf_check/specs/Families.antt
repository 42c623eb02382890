-- Families: points at which every stage of a chain is decodable.
use Rattle.std.specs.Prelude.{ℕ, ◌≡◌, ◌≢◌, ◌<◌, List, length, slice_index, take}
use Rattle.mf_shape.specs.declared.Stage.{Stage}
use Rattle.mf_shape.specs.Stages.{width_at, parities_at}
use Rattle.mf_shape.specs.Chain.{Chain, IsShape}
use Rattle.mf_code.specs.Decodable.{IsDecodable}

-- What contracts see of a family: its shape, and its points.
pub record Code : Type 0 where
  pub shape : Chain
  pub points : List ℕ

-- The points of stage g: as many as it has parities, from the first on.
abbrev pub stage_points : List Stage → List ℕ → ℕ → List ℕ
stage_points stages points g = take (parities_at stages g) points

-- So many points, none 0, and no two equal.
pub record ArePoints (count : ℕ) (points : List ℕ) : Type 0 where
  pub len : length points ≡ count
  pub nonzero : (i : ℕ) → i < count → slice_index points i ≢ 0
  pub distinct : (i j : ℕ) → i < j → j < count → slice_index points i ≢ slice_index points j

-- Stage g is decodable: every set of as many places as it has parities is.
abbrev pub IsStageDecodable : List Stage → List ℕ → ℕ → Type 0
IsStageDecodable stages points g = IsDecodable (stage_points stages points g) (width_at stages g)

-- The points are good for the chain: as many as stage 0 has parities, and every stage is decodable.
pub record IsFamily (stages : List Stage) (points : List ℕ) : Type 0 where
  pub points_ok : ArePoints (parities_at stages 0) points
  pub decodable : (g : ℕ) → g < length stages → IsStageDecodable stages points g

-- What every family keeps.
pub record IsCode (code : Code) : Type 0 where
  pub shape_ok : IsShape code.shape
  pub family : IsFamily code.shape.stages code.points
