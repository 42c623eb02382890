use Rattle.mf_field.proofs.FieldLaws.{inverse, inverse-lt, times-inverse, inverse_unique}
use Rattle.mf_field.proofs.laws.inverse_is_unique.Goals as goal

pub returns : goal.returns
returns c = record {
  it = inverse c.args.a;
  below = inverse-lt c.args.a c.requires c.ranges.a.fits;
  has = times-inverse c.args.a c.requires c.ranges.a.fits;
  only = λ y ly e. inverse_unique c.args.a y c.requires c.ranges.a.fits ly e;
}
