use Rattle.std.proofs.Common.{ℕ, ◌*◌, ◌^◌, ◌<◌, List, length, get_or, bit_xor, sym, ap, ◌∙◌, arith}
use lib.Lanes.{zip2}
use Rattle.mf_code.specs.Field.{times}
use Rattle.mf_kernel.proofs.Tables.{sums_of_halves}
use Rattle.mf_kernel.proofs.row.Row.add_product.Goals as goal

pub returns : goal.returns
returns c =
    let a = c.args in
    let row = c.self.inside.coefficients.now in
    let v = get_or row a.t 0 in
    let lt : a.t < length row = omega (arith, ap length c.self.view_is) in
    sums_of_halves v a.sums a.lanes c.by_lower.result c.by_upper.result (c.fits-sums.0 ∙ sym c.fits-lanes.0)
    (c.by_lower.ensures (times v) (c.twice-low.ensures (times v) (λ n ln. c.self.invariant.lower a.t n lt ln)))
    (c.by_upper.ensures (λ n. times v (n * 2 ^ 4))
    (c.twice-high.ensures (λ n. times v (n * 2 ^ 4)) (λ n ln. c.self.invariant.upper a.t n lt ln)))
    ∙ ap (λ (r : List ℕ). zip2 (λ y x. bit_xor y (times (get_or r a.t 0) x)) a.sums a.lanes) c.self.view_is
