use Rattle.mf_field.proofs.Entries.{exponents_at, exponent_of_power, entry}
use Rattle.mf_field.proofs.laws.two_generates.Goals as goal

pub returns : goal.returns
returns c =
    let at = exponents_at c.args.a c.requires c.ranges.a.fits in
    record { it = entry c.args.a; below = at.0; has = at.1; only = λ y ly e. exponent_of_power y c.args.a ly e }
