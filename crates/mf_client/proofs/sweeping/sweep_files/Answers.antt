use Rattle.std.proofs.Common.{sym, map}
use Rattle.mf_client.proofs.Numbered.{io_same}
use Rattle.mf_client.proofs.sweeping.sweep_files.Goals as goal

pub returns-in_default-clause-io : goal.returns-in_default-clause-io
returns-in_default-clause-io g c = sym (io_same (map g.A.Access.actor c.args.accesses.now))
