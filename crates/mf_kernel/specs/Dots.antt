-- Sums of chunks by rows of coefficients.
use Rattle.std.specs.Prelude.{ℕ, ◌*◌, List, length, slice_index, map}
use Rattle.std.specs.declared.vec.Vec.{Vec}
use Rattle.std.specs.declared.alloc.Global.{Global}
use Rattle.mf_code.specs.Field.{times, power}
use Rattle.mf_code.specs.Sums.{sum_below}
use Rattle.mf_code.specs.Rows.{list_of, column}

-- The bytes of each vector, in turn.
abbrev pub rows : List (Vec ℕ Global) → List (List ℕ)
rows vectors = map (λ v. v.items) vectors

-- The sum of a column by a row: of coefficient t times byte t.
abbrev pub dot : List ℕ → List ℕ → ℕ
dot row column = sum_below (length column) (λ t. times (slice_index row t) (slice_index column t))

-- The sum of chunks of n bytes by a row: byte x is the sum of the bytes x of the chunks by the row.
abbrev pub combined : ℕ → List (List ℕ) → List ℕ → List ℕ
combined n chunks row = list_of n (λ x. dot row (column x chunks))

-- The powers of a point with the exponents 0, step, 2 * step and so on, `count` of them.
abbrev pub powers_of : ℕ → ℕ → ℕ → List ℕ
powers_of count step point = list_of count (λ t. power point (t * step))

-- The sum of a column by the powers of a point: of byte t times the point to the power of t * step.
abbrev pub dot_powers : ℕ → ℕ → List ℕ → ℕ
dot_powers step point column =
    sum_below (length column) (λ t. times (power point (t * step)) (slice_index column t))
