use Rattle.std.proofs.Common.{ℕ, length, refl, sym, subst}
use Rattle.std.proofs.lemmas.Result.{err_from_is_err_and}
use Rattle.mf_matrix.specs.Matrix.{entry as entry_of}
use Rattle.mf_matrix.specs.NoInverses.{IsNoInverse}
use Rattle.mf_erasure.specs.Erasure.{entry}
use Rattle.mf_decode.proofs.Planned.{no_plan-from, entries_same, plan_inverts, is_plan-from}
use Rattle.mf_decode.proofs.planning.plan.Goals as goal

pub invariant_of-result : goal.invariant_of-result
invariant_of-result c =
    let m = c.erasure_matrix-matrix in
    rw (c.in_ok-from_slice.ensures.items, c.in_ok-from_slice-2.ensures.items, c.in_ok-from_slice-3.ensures.items)
    (is_plan-from c.args.points.now c.args.width c.args.erased.now c.args.parities.now c.in_ok-chosen_of.field-0.items
    m.result c.in_ok-inverse.inverse
    c.requires.width.1 c.requires.points c.requires.erasure (λ k. (c.type_inv.points k).fits) c.in_ok-chosen_of.ensures
    m.ensures.size.0 m.ensures.size.1 m.ensures.entries
    c.in_ok-inverse.ensures.size.0 c.in_ok-inverse.ensures.size.1 c.in_ok-inverse.ensures.inverse)

pub returns-in_err-inverse-clause-kernel : goal.returns-in_err-inverse-clause-kernel
returns-in_err-inverse-clause-kernel c =
    let e = length c.args.erased.now in
    let m = c.erasure_matrix-matrix in
    let none : IsNoInverse e (entry_of m.result) c.in_err-inverse.field-0.0 = subst
    (λ (n : ℕ). IsNoInverse n (entry_of m.result) c.in_err-inverse.field-0.0) m.ensures.size.1
    c.in_err-inverse.ensures.kernel in
    let p = err_from_is_err_and c.from_residual.result c.from_residual.ensures.1 in
    rw (p.1, p.2)
    (no_plan-from e (entry_of m.result) (entry c.args.points.now c.args.erased.now c.args.parities.now)
    c.in_err-inverse.field-0.0
    (entries_same c.args.points.now c.args.erased.now c.args.parities.now m.result e refl (sym c.requires.erasure.even)
    m.ensures.entries) none)

pub returns-clause-solvable : goal.returns-clause-solvable
returns-clause-solvable c =
    let m = c.erasure_matrix-matrix in (
      entry_of c.in_ok-inverse.inverse,
      plan_inverts c.args.points.now c.args.erased.now c.args.parities.now m.result c.in_ok-inverse.inverse
          c.requires.erasure.even m.ensures.size.1 m.ensures.entries c.in_ok-inverse.ensures.inverse,
    )
