use Rattle.mf_field.proofs.FieldLaws.{times_comm}
use Rattle.mf_field.proofs.laws.mul_commutes.Goals as goal

pub returns : goal.returns
returns c = times_comm c.args.a c.args.b c.ranges.a.fits c.ranges.b.fits
