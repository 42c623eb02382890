use Rattle.mf_field.proofs.FieldLaws.{times-eq-zero, times-zero, zero-times}
use Rattle.mf_field.proofs.laws.no_zero_divisors.Goals as goal

pub returns-clause-product : goal.returns-clause-product
returns-clause-product c = times-eq-zero c.args.a c.args.b c.ranges.a.fits c.ranges.b.fits

pub returns-clause-right : goal.returns-clause-right
returns-clause-right c = times-zero c.args.a

pub returns-clause-left : goal.returns-clause-left
returns-clause-left c = zero-times c.args.a
