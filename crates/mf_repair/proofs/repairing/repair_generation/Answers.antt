use Rattle.std.proofs.Common.{◌≡◌, drop, length, ap, sym, ◌∙◌, arith}
use Rattle.mf_repair.proofs.Mended.{repaired, few_since, ledger_low}
use Rattle.mf_repair.proofs.repairing.repair_generation.Goals as goal

pub entries_from-entries-requires : goal.entries_from-entries-requires
entries_from-entries-requires g c =
    let low = ledger_low c.args.g (length c.ledger-from.result.now)
    (ap length c.ledger-from.ensures) c.in-Ok.ensures.repairs in
    let l = ap length c.ledger.ensures in omega arith

pub count_restores-requires : goal.count_restores-requires
count_restores-requires g c =
    few_since c.args.g (length c.ledger-from.result.now) c.entries_from-entries.result.now
    (g.met.A.Access.kept c.args.access.now).file.layout
    c.requires.mender.stage (ap length c.ledger-from.ensures) c.in-Ok.ensures.repairs
    (c.entries_from-entries.ensures ∙ ap (drop (length c.ledger-from.result.now)) c.ledger.ensures)

pub count_skips-requires : goal.count_skips-requires
count_skips-requires g c =
    few_since c.args.g (length c.ledger-from.result.now) c.entries_from-entries.result.now
    (g.met.A.Access.kept c.args.access.now).file.layout
    c.requires.mender.stage (ap length c.ledger-from.ensures) c.in-Ok.ensures.repairs
    (c.entries_from-entries.ensures ∙ ap (drop (length c.ledger-from.result.now)) c.ledger.ensures)

pub returns-in-Ok-clause-repairs : goal.returns-in-Ok-clause-repairs
returns-in-Ok-clause-repairs g c =
    repaired c.args.g (length c.ledger-from.result.now) c.count_restores.result c.count_skips.result
    c.entries_from-entries.result.now (ap length c.ledger-from.ensures) c.in-Ok.ensures.repairs
    (c.entries_from-entries.ensures ∙ ap (drop (length c.ledger-from.result.now)) c.ledger.ensures)
    c.count_restores.ensures c.count_skips.ensures
