use Rattle.mf_field.proofs.Powers.{power-add}
use Rattle.mf_field.proofs.laws.pow_of_sum.Goals as goal

pub returns : goal.returns
returns c = power-add c.args.a c.args.m c.args.n c.ranges.a.fits
