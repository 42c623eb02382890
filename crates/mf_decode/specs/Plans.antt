-- What a plan is made of.
use Rattle.std.specs.Prelude.{ℕ, ◌≡◌, ⊤, ◌<◌, ◌≤◌, List, length, slice_index}
use Rattle.mf_matrix.specs.declared.NoInverse.{NoInverse}
use Rattle.mf_matrix.specs.declared.NoInverse.TheVariants as no_inverse
use Rattle.mf_matrix.specs.Matrix.{Grid, entry as entry_of}
use Rattle.mf_matrix.specs.Tables.{HasInverse, IsInverse, IsKernel}
use Rattle.mf_erasure.specs.Erasure.{entry, IsErasure}
use Rattle.mf_decode.specs.declared.planning.NoPlan.{NoPlan}
use Rattle.mf_decode.specs.declared.planning.NoPlan.TheVariants as no_plan
use Rattle.mf_decode.specs.Decoding.{Plan, points_of}

-- Why there is no plan: the matrix of n rows and columns has no inverse, and this is its one kernel list. Want of
-- memory says nothing.
abbrev pub IsNoPlan : ℕ → (ℕ → ℕ → ℕ) → NoPlan → Type 0
IsNoPlan n a (no_plan.Kernel x) = IsKernel n a x × ((y : List ℕ) → IsKernel n a y → y ≡ x) × (HasInverse n a → ⊥)
IsNoPlan n a no_plan.Memory = ⊤

-- The same reason, of a plan.
abbrev pub no_plan_of : NoInverse → NoPlan
no_plan_of (no_inverse.Kernel x) = no_plan.Kernel x
no_plan_of no_inverse.Memory = no_plan.Memory

-- The plan is one of an erasure of at most eight places, `chosen` has the points of its parities, and `inverse` is the
-- inverse of its matrix.
pub record IsPlan (plan : Plan) (chosen : List ℕ) (inverse : Grid) : Type 0 where
  pub narrow : plan.width ≤ 64
  pub few : length plan.erased ≤ 8
  pub erasure : IsErasure plan.width (length plan.points) plan.erased plan.parities
  pub chosen_are : chosen ≡ points_of plan
  pub chosen_bytes : (j : ℕ) → slice_index chosen j < 256
  pub rows_are : inverse.rows ≡ length plan.erased
  pub columns_are : inverse.columns ≡ length plan.erased
  pub inverts : IsInverse (length plan.erased) (entry plan.points plan.erased plan.parities) (entry_of inverse)
