use Rattle.std.proofs.lemmas.Nat.{xor_comm}
use Rattle.mf_field.proofs.laws.add_commutes.Goals as goal

pub returns : goal.returns
returns c = xor_comm c.args.a c.args.b
