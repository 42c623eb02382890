-- The numbers of names, counted: m chunks first, then their copies, then the parities by width.
use Rattle.std.specs.Prelude.{ℕ, zero, suc, ◌+◌, ◌*◌, List}
use Rattle.std.specs.Int.{div_ceil}
use Rattle.mf_shape.specs.declared.Stage.{Stage}
use Rattle.mf_shape.specs.Stages.{copies_at}
use Rattle.mf_places.specs.declared.Name.{Name}
use Rattle.mf_places.specs.declared.Name.TheVariants as name
use Rattle.mf_places.specs.Facts.{BookFacts, chunks_of}
use Rattle.mf_places.specs.Names.{parities_of, max_parities}

-- How many parities m chunks have at a width.
abbrev pub parities_in : ℕ → List Stage → ℕ → ℕ
parities_in m stages width = div_ceil m width * max_parities width stages

-- How many they have at the widths below.
abbrev pub parities_below : ℕ → List Stage → ℕ → ℕ
parities_below m stages zero = 0
parities_below m stages (suc width) = parities_below m stages width + parities_in m stages width

-- The number of the first parity of a width.
abbrev pub first_in : ℕ → List Stage → ℕ → ℕ
first_in m stages width = m + copies_at stages 0 * m + parities_below m stages width

-- The number of a name.
abbrev pub number_of : BookFacts → Name → ℕ
number_of b (name.Data i) = i
number_of b (name.Copy c i) = chunks_of b + c * chunks_of b + i
number_of b (name.Parity width j p) = first_in (chunks_of b) b.shape.stages width + j * parities_of b width + p
