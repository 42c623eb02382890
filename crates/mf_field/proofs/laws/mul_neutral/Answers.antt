use Rattle.mf_field.proofs.FieldLaws.{times-one, one-times}
use Rattle.mf_field.proofs.laws.mul_neutral.Goals as goal

pub returns-clause-right : goal.returns-clause-right
returns-clause-right c = times-one c.args.a c.ranges.a.fits

pub returns-clause-left : goal.returns-clause-left
returns-clause-left c = one-times c.args.a c.ranges.a.fits
