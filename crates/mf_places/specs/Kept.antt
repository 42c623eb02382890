-- What a book keeps beside its facts.
use Rattle.std.specs.Prelude.{◌≡◌, ◌+◌, ◌≤◌}
use Rattle.mf_shape.specs.Stages.{max_width, max_copied_width}
use Rattle.mf_shape.specs.declared.TheConstants.{MAX_WIDTH}
use Rattle.mf_places.specs.declared.TheConstants.{MAX_CHUNKS}
use Rattle.mf_places.specs.declared.Book.TheInside.{Inside}
use Rattle.mf_places.specs.Facts.{BookFacts, IsBook, chunks_of}
use Rattle.mf_places.specs.Rows.{IsFirsts}

-- The facts that the fields say.
abbrev pub facts_of : Inside → BookFacts
facts_of b = record {
  shape = b.shape;
  points = b.points.items;
  chunk = b.chunk;
  file = b.file;
  bytes = b.bytes;
}

-- The other fields are computed from the facts, and small.
pub record IsKept (b : Inside) : Type 0 where
  pub book : IsBook (facts_of b)
  pub chunks : b.chunks ≡ chunks_of (facts_of b)
  pub widest : b.widest ≡ max_width b.shape.stages
  pub copied : b.copied ≡ max_copied_width b.shape.stages
  pub firsts : IsFirsts b.chunks b.shape.stages (b.widest + 2) b.firsts.items
  pub short : b.chunks ≤ MAX_CHUNKS
  pub wide : (1 ≤ b.widest) × (b.widest ≤ MAX_WIDTH)
  pub thin : b.copied ≤ MAX_WIDTH
