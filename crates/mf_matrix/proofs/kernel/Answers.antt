use Rattle.std.proofs.Common.{ℕ, ap, subst}
use Rattle.mf_matrix.specs.Tables.{OnlyZero}
use Rattle.mf_matrix.specs.Matrix.{Grid, entry}
use Rattle.mf_matrix.specs.Elimination.{coefficient, IsSystemOf}
use Rattle.mf_matrix.proofs.Grids.{bytes_of}
use Rattle.mf_matrix.proofs.Inverses.{only_zero-solved}
use Rattle.mf_matrix.proofs.Kernels.{stuck_system}
use Rattle.mf_matrix.proofs.kernel.Goals as goal

pub returns-in-None : goal.returns-in-None
returns-in-None c =
    let m = c.args.matrix.now in
    let columns = ap (λ (g : Grid). g.columns) c.matrix.view_is in
    let init = coefficient c.equations_of-equations.result in
    let size : ℕ = c.matrix.inside.columns in
    let system : IsSystemOf size (entry m) init = rw columns c.equations_of-equations.ensures.says in
    let zeros : OnlyZero size (entry m) = only_zero-solved size (entry m) init (coefficient c.solve.new.equations)
    system c.in-None.ensures.same c.in-None.ensures.end in
    subst (λ n. OnlyZero n (entry m)) columns zeros

pub returns-in_ok-kernel_of-in-Some : goal.returns-in_ok-kernel_of-in-Some
returns-in_ok-kernel_of-in-Some c =
    let m = c.args.matrix.now in
    let init = coefficient c.equations_of-equations.result in
    let (within, solved, stuck) = c.in-Some.ensures.end in
    let (v, f, leading, inverse, lf, is) = c.in_ok-kernel_of-in-Some.ensures in
    stuck_system c.matrix.inside.columns m.columns c.in-Some.column (entry m) init (coefficient c.solve.new.equations)
    (ap (λ (g : Grid). g.columns) c.matrix.view_is) within
    (bytes_of _ m c.matrix.view_is c.matrix.invariant) c.equations_of-equations.ensures.says c.in-Some.ensures.same
    solved stuck
    v f c.in_ok-kernel_of-in-Some.field-0 leading inverse lf is
