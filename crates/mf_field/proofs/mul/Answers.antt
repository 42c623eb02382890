use Rattle.std.proofs.Common.{inl, inr, ⊎_elim}
use Rattle.mf_field.proofs.Generator.{product_from, zero_from}
use Rattle.mf_field.proofs.mul.Goals as goal

pub returns-then-b-eq0 : goal.returns-then-b-eq0
returns-then-b-eq0 c = zero_from c.args.a c.args.b (⊎_elim inl (λ h. inr h.1) c.if-b-eq0.either)

pub returns-else-b-eq0 : goal.returns-else-b-eq0
returns-else-b-eq0 c = product_from c.args.a c.args.b _ _ _ c.exponent.ensures.power
    c.exponent-else-b-eq0.ensures.power c.power_of_two.ensures
