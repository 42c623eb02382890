use Rattle.std.proofs.Common.{ℕ, map, ap, ◌∙◌}
use Rattle.mf_code.specs.Field.{times}
use Rattle.mf_kernel.proofs.Tables.{products_of_halves}
use Rattle.mf_kernel.proofs.factor.Factor.product.Goals as goal

pub returns : goal.returns
returns c =
    let a = c.args in
    let v = c.self.inside.value in
    products_of_halves v a.lanes c.by_lower.result c.by_upper.result (c.by_lower.ensures _ c.self.invariant.0)
    (c.by_upper.ensures _ c.self.invariant.1)
    ∙ ap (λ (f : ℕ). map (times f) a.lanes) c.self.view_is
