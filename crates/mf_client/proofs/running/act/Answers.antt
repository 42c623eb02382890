use Rattle.std.proofs.Common.{sym, map}
use Rattle.mf_client.proofs.Commands.{lost_io, families_all}
use Rattle.mf_client.proofs.running.act.Goals as goal

pub returns-in-Lose-clause-io : goal.returns-in-Lose-clause-io
returns-in-Lose-clause-io g c = sym (lost_io _ c.args.command.line c.lose_server.result _ _ c.lose_server.ensures)

pub sweep_files-requires-clause-families : goal.sweep_files-requires-clause-families
sweep_files-requires-clause-families g c =
    families_all c.args.script.now c.requires.finds.phase (map g.A.Access.actor c.args.accesses.now)
    c.requires.finds.files
