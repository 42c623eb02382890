-- What a matrix shows.
use Rattle.std.specs.Prelude.{ℕ, ◌≡◌, ◌+◌, ◌*◌, ◌<◌, ◌≤◌, List, length, slice_index}
use Rattle.mf_matrix.specs.declared.TheConstants.{MAX_SIDE}

-- A matrix, its entries row by row.
pub record Grid : Type 0 where
  pub rows : ℕ
  pub columns : ℕ
  pub entries : List ℕ

-- A few rows and columns of bytes.
pub record IsGrid (m : Grid) : Type 0 where
  pub few_rows : m.rows ≤ MAX_SIDE
  pub few_columns : m.columns ≤ MAX_SIDE
  pub filled : length m.entries ≡ m.rows * m.columns
  pub bytes : (k : ℕ) → slice_index m.entries k < 256

-- The entry in row i and column j.
abbrev pub entry : Grid → ℕ → ℕ → ℕ
entry m i j = slice_index m.entries (i * m.columns + j)
