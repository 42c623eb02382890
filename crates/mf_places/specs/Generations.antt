-- What a generation holds, and its stripes.
use Rattle.std.specs.Prelude.{ℕ, ◌/◌, ◌==◌, ◌&&◌, Bool, List, ◌++◌, map, nat_lt}
use Rattle.std.specs.List.{flat_map, range_with_len}
use Rattle.mf_code.specs.Stripes.{piece_count, stripe_chunks}
use Rattle.mf_shape.specs.Stages.{width_at, parities_at, copies_at}
use Rattle.mf_places.specs.declared.Name.{Name}
use Rattle.mf_places.specs.declared.Name.TheVariants as name
use Rattle.mf_places.specs.Facts.{BookFacts, chunks_of}
use Rattle.mf_places.specs.Names.{stripes_of}

-- Generation g holds the name.
abbrev pub holds : BookFacts → ℕ → Name → Bool
holds b g (name.Data i) = nat_lt i (chunks_of b)
holds b g (name.Copy c i) = nat_lt c (copies_at b.shape.stages g) && nat_lt i (chunks_of b)
holds b g (name.Parity width j p) =
    (width == width_at b.shape.stages g) && nat_lt j (stripes_of b width) && nat_lt p (parities_at b.shape.stages g)

-- The stripe of generation g that a name belongs to. A copy belongs to the stripe of its chunk.
abbrev pub stripe_of : BookFacts → ℕ → Name → ℕ
stripe_of b g (name.Data i) = i / width_at b.shape.stages g
stripe_of b g (name.Copy c i) = i / width_at b.shape.stages g
stripe_of b g (name.Parity width j p) = j

-- Generation g holds the name in stripe j.
abbrev pub holds_in : BookFacts → ℕ → ℕ → Name → Bool
holds_in b g j x = holds b g x && (stripe_of b g x == j)

-- How many chunks stripe j of generation g has.
abbrev pub pieces_of : BookFacts → ℕ → ℕ → ℕ
pieces_of b g j = piece_count b.chunk b.bytes (width_at b.shape.stages g) j

-- Its chunks, by their indices.
abbrev pub pieces_at : BookFacts → ℕ → ℕ → List ℕ
pieces_at b g j = stripe_chunks b.chunk b.bytes (width_at b.shape.stages g) j

-- Its data.
abbrev pub data_of_stripe : BookFacts → ℕ → ℕ → List Name
data_of_stripe b g j = map (λ i. name.Data i) (pieces_at b g j)

-- Copy c of each of its chunks.
abbrev pub copy_of_stripe : BookFacts → ℕ → ℕ → ℕ → List Name
copy_of_stripe b g j c = map (λ i. name.Copy c i) (pieces_at b g j)

-- Its copies, by c and then by chunk.
abbrev pub copies_of_stripe : BookFacts → ℕ → ℕ → List Name
copies_of_stripe b g j = flat_map (copy_of_stripe b g j) (range_with_len 0 (copies_at b.shape.stages g))

-- Its parities, by p.
abbrev pub parities_of_stripe : BookFacts → ℕ → ℕ → List Name
parities_of_stripe b g j =
    map (λ p. name.Parity (width_at b.shape.stages g) j p) (range_with_len 0 (parities_at b.shape.stages g))

-- Its names in their order: the data, then the copies, then the parities.
unfoldable pub stripe_names : BookFacts → ℕ → ℕ → List Name
stripe_names b g j = data_of_stripe b g j ++ copies_of_stripe b g j ++ parities_of_stripe b g j
