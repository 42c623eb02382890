use Rattle.std.proofs.Common.{rules}
use Rattle.mf_gate.specs.Passes.{told, view}
use Rattle.mf_shared.specs.Noted.{Any}
use Rattle.mf_shared.proofs.Fair.{publish_rises}
use Rattle.mf_shared.proofs.Noting.{publish_meets}
use Rattle.mf_shared.proofs.calls.SharedAccessAccess.publish.Goals as goal

pub returns-clause-goes : goal.returns-clause-goes
returns-clause-goes g c = let p = c.args.self.now.pass in let row = c.publish.ensures.row in record {
  becomes = search rules;
  fair = publish_rises (told p) (view p) c.args.next row.0 row.1.met (search rules);
  told = tt;
}

pub returns-clause-met : goal.returns-clause-met
returns-clause-met g c = let row = c.publish.ensures.row in
    publish_meets Any c.args.next row.0 c.args.self.now.pass c.publish.new.pass row.1 tt
