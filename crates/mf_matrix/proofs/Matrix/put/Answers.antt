use Rattle.std.proofs.Common.{◌<◌, ap, arith}
use Rattle.mf_matrix.specs.Matrix.{Grid}
use Rattle.mf_matrix.proofs.Grids.{put_grid, put_kept}
use Rattle.mf_matrix.proofs.Matrix.put.Goals as goal

pub returns-clause-changed : goal.returns-clause-changed
returns-clause-changed c =
    let i = c.self.inside in
    let low : c.args.row < i.rows = omega (arith, c.requires.row_in, ap (λ (g : Grid). g.rows) c.self.view_is) in
    let inside : c.args.column < i.columns =
    omega (arith, c.requires.column_in, ap (λ (g : Grid). g.columns) c.self.view_is) in
    put_grid i.rows i.columns i.room c.args.self.now c.args.row c.args.column c.args.value c.self.view_is low inside

pub returns-clause-kept : goal.returns-clause-kept
returns-clause-kept c =
    let i = c.self.inside in
    let low : c.args.row < i.rows = omega (arith, c.requires.row_in, ap (λ (g : Grid). g.rows) c.self.view_is) in
    let inside : c.args.column < i.columns =
    omega (arith, c.requires.column_in, ap (λ (g : Grid). g.columns) c.self.view_is) in
    put_kept i.rows i.columns i.room c.args.row c.args.column c.args.value c.self.invariant low inside
    c.ranges.value.fits
