use Rattle.mf_field.proofs.Powers.{power-mul}
use Rattle.mf_field.proofs.laws.pow_of_product.Goals as goal

pub returns : goal.returns
returns c = power-mul c.args.a c.args.m c.args.n c.ranges.a.fits
