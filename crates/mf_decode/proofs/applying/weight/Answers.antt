use Rattle.std.proofs.Common.{ℕ, get_or, bit_xor, sym, ap₂, ◌∙◌, arith}
use Rattle.mf_code.specs.Field.{times, power}
use Rattle.mf_code.proofs.Sums.{sum_below-none, sum_below-more}
use Rattle.mf_code.proofs.Lists.{list_of_at}
use Rattle.mf_matrix.specs.Matrix.{entry}
use Rattle.mf_decode.specs.Columns.{row_entries}
use Rattle.mf_decode.proofs.applying.weight.Goals as goal

pub loop-j-init : goal.loop-j-init
loop-j-init c = sym
    (sum_below-none
    (λ (j : ℕ). times (get_or (row_entries c.args.inverse.now c.args.e) j 0)
    (power (get_or c.args.points.now j 0) c.args.t)))

pub loop-j-preserved : goal.loop-j-preserved
loop-j-preserved c =
    let a = c.args in
    let m = a.inverse.now in
    let f : ℕ → ℕ = λ j. times (get_or (row_entries m a.e) j 0) (power (get_or a.points.now j 0) a.t) in
    c.add-sum.ensures
    ∙ ap₂ bit_xor c.loop-j.invariant
    (c.mul.ensures
    ∙ ap₂ times (c.at.ensures ∙ sym (list_of_at m.columns (entry m a.e) c.loop-j.j (omega arith))) c.pow.ensures)
    ∙ sym (sum_below-more c.loop-j.j f)
