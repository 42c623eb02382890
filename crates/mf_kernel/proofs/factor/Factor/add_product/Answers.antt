use Rattle.std.proofs.Common.{ℕ, bit_xor, sym, ap, ◌∙◌}
use lib.Lanes.{zip2}
use Rattle.mf_code.specs.Field.{times}
use Rattle.mf_kernel.proofs.Tables.{sums_of_halves}
use Rattle.mf_kernel.proofs.factor.Factor.add_product.Goals as goal

pub returns : goal.returns
returns c =
    let a = c.args in
    let v = c.self.inside.value in
    sums_of_halves v a.sums a.lanes c.by_lower.result c.by_upper.result (c.fits-sums.0 ∙ sym c.fits-lanes.0)
    (c.by_lower.ensures _ c.self.invariant.0) (c.by_upper.ensures _ c.self.invariant.1)
    ∙ ap (λ (f : ℕ). zip2 (λ y x. bit_xor y (times f x)) a.sums a.lanes) c.self.view_is
