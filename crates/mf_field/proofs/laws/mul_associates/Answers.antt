use Rattle.mf_field.proofs.FieldLaws.{times_assoc}
use Rattle.mf_field.proofs.laws.mul_associates.Goals as goal

pub returns : goal.returns
returns c = times_assoc c.args.a c.args.b c.args.c c.ranges.a.fits c.ranges.b.fits c.ranges.c.fits
