use Rattle.mf_field.proofs.Entries.{exponents_at}
use Rattle.mf_field.proofs.tables.exponent.Goals as goal

pub returns-clause-below : goal.returns-clause-below
returns-clause-below c = (exponents_at c.args.a c.requires c.ranges.a.fits).0

pub returns-clause-power : goal.returns-clause-power
returns-clause-power c = (exponents_at c.args.a c.requires c.ranges.a.fits).1
