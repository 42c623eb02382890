use Rattle.mf_shared.specs.Noted.{Any}
use Rattle.mf_shared.proofs.Noting.{end_meets}
use Rattle.mf_shared.proofs.calls.SharedAccessAccess.end.Goals as goal

pub returns-clause-met : goal.returns-clause-met
returns-clause-met g c = let row = c.end.ensures.row in
    end_meets Any row.0 c.args.self.now.pass c.end.new.pass row.1 tt
