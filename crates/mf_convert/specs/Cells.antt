-- The cells of the first generation.
use Rattle.std.specs.Prelude.{◌≡◌, ℕ, List, length, map, true}
use Rattle.std.specs.List.{range_with_len}
use Rattle.std.specs.declared.vec.Vec.{Vec}
use Rattle.std.specs.declared.alloc.Global.{Global}
use Rattle.mf_code.specs.Chunks.{chunks, parity}
use Rattle.mf_places.specs.declared.Name.{Name}
use Rattle.mf_places.specs.Facts.{BookFacts, IsBook}
use Rattle.mf_places.specs.Generations.{holds}
use Rattle.mf_places.specs.Names.{HasName, stripes_of}
use Rattle.mf_shape.specs.Stages.{width_at}
use Rattle.mf_convert.specs.declared.cells.Made.{Made}

-- The first generation holds the name.
abbrev pub IsFirst : BookFacts → Name → Type 0
IsFirst b x = HasName b x × (holds b 0 x ≡ true)

-- The parities of stripe j of the first generation, one a point.
abbrev pub parities_of : BookFacts → List ℕ → ℕ → List (List ℕ)
parities_of b file j = map (λ point. parity b.chunk file point (width_at b.shape.stages 0) j) b.points

-- How many stripes the first generation has.
abbrev pub first_stripes : BookFacts → ℕ
first_stripes b = stripes_of b (width_at b.shape.stages 0)

-- The chunks of each vector, in turn.
abbrev pub rows_of : List (Vec (List ℕ) Global) → List (List (List ℕ))
rows_of vectors = map (λ v. v.items) vectors

-- These are the chunks of the file, and the parities of each stripe of its first generation.
pub record AreMade (b : BookFacts) (file : List ℕ) (made : Made) : Type 0 where
  pub book : IsBook b
  pub long : length file ≡ b.bytes
  pub chunks : made.chunks.items ≡ chunks b.chunk file
  pub parities : rows_of made.parities.items ≡ map (parities_of b file) (range_with_len 0 (first_stripes b))
