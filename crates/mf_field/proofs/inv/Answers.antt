use Rattle.mf_field.proofs.Generator.{inverse_from}
use Rattle.mf_field.proofs.inv.Goals as goal

pub returns-else-a-eq0-clause-product : goal.returns-else-a-eq0-clause-product
returns-else-a-eq0-clause-product c = inverse_from c.args.a _ _ c.exponent.ensures.power c.exponent.ensures.below
    c.power_of_two.ensures
