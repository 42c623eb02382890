use Rattle.std.proofs.Common.{arith}
use Rattle.mf_field.proofs.Generator.{power_from, power_none, power_of_zero}
use Rattle.mf_field.proofs.pow.Goals as goal

pub returns-then-e-eq0 : goal.returns-then-e-eq0
returns-then-e-eq0 c = power_none c.args.a c.args.e (omega arith)

pub returns-then-a-eq0 : goal.returns-then-a-eq0
returns-then-a-eq0 c = power_of_zero c.args.a c.args.e (omega arith) (omega arith)

pub returns-else-a-eq0 : goal.returns-else-a-eq0
returns-else-a-eq0 c = power_from c.args.a c.args.e _ _ c.exponent.ensures.power c.power_of_two.ensures
