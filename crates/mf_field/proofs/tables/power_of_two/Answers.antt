use Rattle.mf_field.proofs.Entries.{powers_at}
use Rattle.mf_field.proofs.tables.power_of_two.Goals as goal

pub returns : goal.returns
returns c = powers_at c.args.e c.requires
