use Rattle.std.proofs.Common.{◌≡◌, ℕ, ◌*◌, ◌≤◌, List, replicate, take, ap, sym, subst, ◌∙◌}
use Rattle.mf_matrix.specs.Matrix.{Grid, IsGrid}
use Rattle.mf_matrix.proofs.Grids.{zero_entries, zero_kept, grid_of}
use Rattle.mf_matrix.proofs.Matrix.zero.Goals as goal

-- the room of zeros shows the matrix of zeros
zero_grid : (rows columns : ℕ) (room : List ℕ) → rows ≤ 8 → columns ≤ 8 → room ≡ replicate 64 0
    → grid_of rows columns room ≡ record { rows = rows; columns = columns; entries = replicate (rows * columns) 0 }
zero_grid rows columns room few narrow is =
    ap (λ (xs : List ℕ). (let g : Grid = record { rows = rows; columns = columns; entries = xs } in g))
    (ap (take (rows * columns)) is ∙ zero_entries rows columns few narrow)

pub invariant_of-result : goal.invariant_of-result
invariant_of-result c =
    let rows = c.args.rows in
    let columns = c.args.columns in
    subst IsGrid (sym (zero_grid rows columns c.zeros-room.result c.requires.few_rows c.requires.few_columns
    c.zeros-room.ensures))
    (zero_kept rows columns c.requires.few_rows c.requires.few_columns)

pub returns-clause-made : goal.returns-clause-made
returns-clause-made c = zero_grid c.args.rows c.args.columns c.zeros-room.result c.requires.few_rows
    c.requires.few_columns c.zeros-room.ensures

pub returns-clause-kept : goal.returns-clause-kept
returns-clause-kept c = invariant_of-result c
