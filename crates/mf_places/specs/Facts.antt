-- What contracts see of a book, and what every book keeps.
use Rattle.std.specs.Prelude.{◌≡◌, ℕ, ◌<◌, ◌≤◌, List, length}
use Rattle.mf_code.specs.Chunks.{chunk_count}
use Rattle.mf_shape.specs.Stages.{parities_at}
use Rattle.mf_shape.specs.Chain.{Chain, IsShape}
use Rattle.mf_shape.specs.declared.Stage.{Stage}
use Rattle.mf_places.specs.declared.TheConstants.{MAX_CHUNK, MAX_FILES, MAX_LENGTH, MAX_CHUNKS}

-- The facts of a file's book: the shape and the points of its family, the number of bytes of a chunk, the file's
-- number, and the number of the file's bytes.
pub record BookFacts : Type 0 where
  pub shape : Chain
  pub points : List ℕ
  pub chunk : ℕ
  pub file : ℕ
  pub bytes : ℕ

-- How many chunks the file has.
abbrev pub chunks_of : BookFacts → ℕ
chunks_of b = chunk_count b.chunk b.bytes

-- There is one point for each parity of the first stage.
abbrev pub HasPoints : List Stage → List ℕ → Type 0
HasPoints stages points = length points ≡ parities_at stages 0

-- What every book keeps: the rules of its shape, a point for each parity, and the limits of a file.
pub record IsBook (b : BookFacts) : Type 0 where
  pub shape : IsShape b.shape
  pub points : HasPoints b.shape.stages b.points
  pub chunk : (1 ≤ b.chunk) × (b.chunk ≤ MAX_CHUNK)
  pub file : b.file < MAX_FILES
  pub bytes : b.bytes ≤ MAX_LENGTH
  pub chunks : chunks_of b ≤ MAX_CHUNKS
