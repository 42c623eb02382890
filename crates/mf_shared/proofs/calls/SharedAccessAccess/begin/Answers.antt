use Rattle.std.proofs.Common.{◌≡◌}
use Rattle.mf_machine.specs.Steps.{begin_answer}
use Rattle.mf_shared.proofs.Noting.{begin_meets}
use Rattle.mf_shared.proofs.calls.SharedAccessAccess.begin.Goals as goal

pub returns-clause-met : goal.returns-clause-met
returns-clause-met g c = let row = c.begin-self.ensures.row in
    begin_meets (λ x. c.begin-self.result ≡ begin_answer x) row.0 c.args.self.now.pass c.begin-self.new.pass row.1
    row.2
