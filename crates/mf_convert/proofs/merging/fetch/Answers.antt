use Rattle.std.proofs.Common.{arith}
use Rattle.mf_convert.specs.Convert as convert
use Rattle.mf_convert.proofs.Courses.{handed_on, stopped, by_call, went}
use Rattle.mf_convert.proofs.Marks.{may_get}
use Rattle.mf_convert.proofs.merging.fetch.Goals as goal

pub returns-in_err-go_on-clause-cuts : goal.returns-in_err-go_on-clause-cuts
returns-in_err-go_on-clause-cuts g c = handed_on c.from_residual.result _ _ c.from_residual.ensures.1
    (stopped _ _ c.in_err-go_on.ensures.stopped)

pub get-requires-clause-may : goal.get-requires-clause-may
get-requires-clause-may g c = may_get c.args.name c.requires.converter
    (g.met.A.Access.kept c.args.access.now).file c.requires.held

pub returns-in-Lost-clause-cuts : goal.returns-in-Lost-clause-cuts
returns-in-Lost-clause-cuts g c = by_call (convert.lost_got c.args.name _ _ c.in-Lost.line) c.in-Lost.ensures.goes
    (went _ (omega arith) c.in_ok-go_on.ensures.on c.in-Lost.ensures.goes).within

pub returns-in-Away-clause-cuts : goal.returns-in-Away-clause-cuts
returns-in-Away-clause-cuts g c = by_call (convert.away_got c.args.name _ _ c.in-Away.server) c.in-Away.ensures.goes
    (went _ (omega arith) c.in_ok-go_on.ensures.on c.in-Away.ensures.goes).within

pub returns-in-Memory-clause-cuts : goal.returns-in-Memory-clause-cuts
returns-in-Memory-clause-cuts g c = by_call (convert.not_shared c.args.name _ _) c.in-Memory.ensures.goes
    (went _ (omega arith) c.in_ok-go_on.ensures.on c.in-Memory.ensures.goes).within
