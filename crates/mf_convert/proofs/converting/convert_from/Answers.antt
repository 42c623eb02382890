use Rattle.std.proofs.Common.{ap, length}
use Rattle.mf_convert.proofs.Converted.{may_publish, few_since, converted_from, cut_from}
use Rattle.mf_convert.proofs.converting.convert_from.Goals as goal

pub publish-requires : goal.publish-requires
publish-requires g c = may_publish c.in-Ok.ensures.completes c.requires.converter

pub made-requires-clause-few : goal.made-requires-clause-few
made-requires-clause-few g c = few_since (g.met.A.Access.kept c.args.access.now).file.layout c.in-Ok.ensures.completes
    c.publish.ensures.goes (ap length c.ledger.ensures)

pub returns-in-Ok : goal.returns-in-Ok
returns-in-Ok g c = converted_from c.in-Ok.ensures.completes c.publish.ensures.goes
    (ap length c.ledger.ensures) c.made.ensures

pub returns-in-Err : goal.returns-in-Err
returns-in-Err g c = cut_from c.in-Err.ensures.cuts (ap length c.ledger.ensures)
