-- The stages of a chain by their numbers, and the greatest widths among them.
use Rattle.std.specs.Prelude.{ℕ, ◌+◌, max, List, [], ◌∷◌, if◌then◌else◌, slice_index_or, nat_lt}
use Rattle.mf_shape.specs.declared.Stage.{Stage}

-- what stands at a number that no stage has
abbrev pub no_stage : Stage
no_stage = record { width = 0; parities = 0; copies = 0 }

-- stage g
abbrev pub stage_at : List Stage → ℕ → Stage
stage_at stages g = slice_index_or stages g no_stage

-- the width, the parities and the further copies of stage g
abbrev pub width_at : List Stage → ℕ → ℕ
width_at stages g = (stage_at stages g).width

abbrev pub parities_at : List Stage → ℕ → ℕ
parities_at stages g = (stage_at stages g).parities

abbrev pub copies_at : List Stage → ℕ → ℕ
copies_at stages g = (stage_at stages g).copies

-- the greatest width
abbrev pub max_width : List Stage → ℕ
max_width [] = 0
max_width (stage ∷ rest) = max stage.width (max_width rest)

-- a stage's width where it has copies, and else 0
abbrev pub copied_width : Stage → ℕ
copied_width stage = if nat_lt 0 stage.copies then stage.width else 0

-- the greatest width among the stages that have copies, or 0 where none has
abbrev pub max_copied_width : List Stage → ℕ
max_copied_width [] = 0
max_copied_width (stage ∷ rest) = max (copied_width stage) (max_copied_width rest)

-- how many lost names of one stripe stage g bears
abbrev pub tolerance_at : List Stage → ℕ → ℕ
tolerance_at stages g = copies_at stages g + parities_at stages g

-- the servers that a chain needs: a column each for the widest stripe and for its first stage's parities
abbrev pub columns : List Stage → ℕ
columns stages = max_width stages + parities_at stages 0
