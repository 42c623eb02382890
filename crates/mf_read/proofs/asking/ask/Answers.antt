use Rattle.mf_read.proofs.Asked.{no_room, asked_by}
use Rattle.mf_vault.specs.Facts.{cell_of}
use Rattle.mf_read.proofs.asking.ask.Goals as goal

pub returns-then-is_err : goal.returns-then-is_err
returns-then-is_err g c = no_room c.args.name (cell_of
    (g.A.Access.actor c.args.access.now).facts c.args.name) c.reserve.ensures.stays

pub returns : goal.returns
returns g c = rw c.had.ensures (asked_by c.args.name c.get-answer.result c.reserve.ensures.stays
    c.get-answer.ensures.goes)
