-- The names of a file's chunks, in their order. Width w has the parities of stripe 0, then of stripe 1, and so on.
use Rattle.std.specs.Prelude.{ℕ, ◌+◌, ◌<◌, ◌==◌, max, List, [], ◌∷◌, ◌++◌, length, map, if◌then◌else◌, slice_index_or}
use Rattle.std.specs.List.{flat_map, range_with_len}
use Rattle.mf_code.specs.Stripes.{stripe_count}
use Rattle.mf_shape.specs.declared.Stage.{Stage}
use Rattle.mf_shape.specs.Stages.{copies_at, max_width}
use Rattle.mf_places.specs.declared.Name.{Name}
use Rattle.mf_places.specs.declared.Name.TheVariants as name
use Rattle.mf_places.specs.Facts.{BookFacts, chunks_of}

-- How many stripes of this width the file's chunks make.
abbrev pub stripes_of : BookFacts → ℕ → ℕ
stripes_of b width = stripe_count b.chunk b.bytes width

-- The greatest number of parities among the stages of a width, or 0 where there is none.
abbrev pub max_parities : ℕ → List Stage → ℕ
max_parities width [] = 0
max_parities width (stage ∷ rest) = max (if stage.width == width then stage.parities else 0) (max_parities width rest)

-- How many parities a stripe of this width has.
abbrev pub parities_of : BookFacts → ℕ → ℕ
parities_of b width = max_parities width b.shape.stages

-- The file has a chunk of this name.
abbrev pub HasName : BookFacts → Name → Type 0
HasName b (name.Data i) = i < chunks_of b
HasName b (name.Copy c i) = (c < copies_at b.shape.stages 0) × (i < chunks_of b)
HasName b (name.Parity width j p) = (j < stripes_of b width) × (p < parities_of b width)

-- All data by i.
unfoldable pub data_names : BookFacts → List Name
data_names b = map (λ i. name.Data i) (range_with_len 0 (chunks_of b))

-- Further copy c of each chunk, by i.
unfoldable pub copies_named : BookFacts → ℕ → List Name
copies_named b c = map (λ i. name.Copy c i) (range_with_len 0 (chunks_of b))

-- The copies, by c and then by i.
unfoldable pub copy_names : BookFacts → List Name
copy_names b = flat_map (copies_named b) (range_with_len 0 (copies_at b.shape.stages 0))

-- The parities of stripe j of a width, by p.
unfoldable pub stripe_parities : BookFacts → ℕ → ℕ → List Name
stripe_parities b width j = map (λ p. name.Parity width j p) (range_with_len 0 (parities_of b width))

-- The parities of a width, by stripe and then by p.
unfoldable pub width_parities : BookFacts → ℕ → List Name
width_parities b width = flat_map (stripe_parities b width) (range_with_len 0 (stripes_of b width))

-- The parities, by width, then by stripe, then by p.
unfoldable pub parity_names : BookFacts → List Name
parity_names b = flat_map (width_parities b) (range_with_len 0 (max_width b.shape.stages + 1))

-- All names of the file in their order: the data, then the copies, then the parities.
unfoldable pub all_names : BookFacts → List Name
all_names b = data_names b ++ copy_names b ++ parity_names b

-- How many names the file has.
unfoldable pub count_of : BookFacts → ℕ
count_of b = length (all_names b)

-- Name number n.
unfoldable pub name_at : BookFacts → ℕ → Name
name_at b n = slice_index_or (all_names b) n (name.Data 0)
