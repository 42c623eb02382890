use Rattle.std.proofs.Common.{◌≡◌, ℕ, ◌+◌, ◌*◌, ap, subst, arith}
use Rattle.mf_matrix.specs.Matrix.{Grid, entry}
use Rattle.mf_matrix.specs.Elimination.{coefficient, SameSolutions}
use Rattle.mf_matrix.proofs.Grids.{bytes_of}
use Rattle.mf_matrix.proofs.Inverses.{solved_system, same_left}
use Rattle.mf_matrix.proofs.Kernels.{stuck_system}
use Rattle.mf_matrix.proofs.invert.Goals as goal

pub returns-in-None-clause-inverse : goal.returns-in-None-clause-inverse
returns-in-None-clause-inverse c =
    let m = c.args.matrix.now in
    let size : ℕ = c.matrix.inside.columns in
    let b : Grid = c.right_side.result in
    let init = coefficient c.equations_of-equations.result in
    let e = coefficient c.solve.new.equations in
    let same : SameSolutions size (size + size) init e =
    subst (λ n. SameSolutions size n init e) (let twice : 2 * size ≡ size + size = omega arith in twice)
    c.in-None.ensures.same in
    solved_system size m.columns (entry m) (entry b) init e (ap (λ (g : Grid). g.columns) c.matrix.view_is)
    (bytes_of _ m c.matrix.view_is c.matrix.invariant) (λ i j. c.right_side.ensures.kept.bytes (i * b.columns + j))
    c.equations_of-equations.ensures.says same c.in-None.ensures.end c.right_side.ensures.entries

pub returns-in_ok-kernel_of-in-Some-clause-kernel : goal.returns-in_ok-kernel_of-in-Some-clause-kernel
returns-in_ok-kernel_of-in-Some-clause-kernel c =
    let m = c.args.matrix.now in
    let size : ℕ = c.matrix.inside.columns in
    let init = coefficient c.equations_of-equations.result in
    let e = coefficient c.solve.new.equations in
    let same : SameSolutions size (size + size) init e =
    subst (λ n. SameSolutions size n init e) (let twice : 2 * size ≡ size + size = omega arith in twice)
    c.in-Some.ensures.same in
    let (within, solved, stuck) = c.in-Some.ensures.end in
    let (v, f, leading, inverse, lf, is) = c.in_ok-kernel_of-in-Some.ensures in
    stuck_system size m.columns c.in-Some.column (entry m) init e (ap (λ (g : Grid). g.columns) c.matrix.view_is) within
    (bytes_of _ m c.matrix.view_is c.matrix.invariant) c.equations_of-equations.ensures.says
    (same_left size init e same) solved stuck
    v f c.in_ok-kernel_of-in-Some.field-0 leading inverse lf is
