use Rattle.std.proofs.Common.{ap, ◌∙◌, length, arith, length-append}
use Rattle.mf_vault.proofs.Doing.{entries_are}
use Rattle.mf_vault.specs.Licence.{entries_of}
use Rattle.mf_client.proofs.Went.{comes_does}
use Rattle.mf_client.proofs.running.on_file.Goals as goal

pub count_from-io-requires : goal.count_from-io-requires
count_from-io-requires g c =
    let went = comes_does c.args.act c.act_on-outcome.result c.act_on-outcome.ensures in
    let a = ap length c.ledger-from.ensures in
    let b = ap length c.ledger.ensures in
    let more = ap length (entries_are went.1)
    ∙ length-append (g.A.Access.actor c.args.access.now).entries (entries_of went.0) in omega arith
