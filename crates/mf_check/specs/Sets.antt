-- Sets of places, their order, and their kernel lists.
use Rattle.std.specs.Prelude.{ℕ, ◌≡◌, ◌<◌, List, length, slice_index}
use Rattle.mf_erasure.specs.Erasure.{Splits, entry}
use Rattle.mf_matrix.specs.Tables.{IsKernel}

-- The set s comes before the set t: at the first place where they differ, s has the lesser number.
abbrev pub IsBefore : List ℕ → List ℕ → Type 0
IsBefore s t = (k : ℕ) × (k < length s) × ((i : ℕ) → i < k → slice_index s i ≡ slice_index t i)
    × (slice_index s k < slice_index t k)

-- The kernel list of a set of places: with the surviving parities as rows, the lost data places as columns, and as
-- entries the point of the parity to the power of the place, it is the kernel list of the matrix. So it has an entry
-- for each lost data place, and gives zero in every surviving parity.
abbrev pub IsKernelOfSet : List ℕ → ℕ → List ℕ → List ℕ → Type 0
IsKernelOfSet points width places kernel =
    (lost : List ℕ) × (kept : List ℕ) × Splits width (length points) places lost kept
    × IsKernel (length lost) (entry points lost kept) kernel
