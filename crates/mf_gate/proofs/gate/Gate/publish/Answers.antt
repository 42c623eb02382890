use Rattle.mf_gate.specs.Passes.{about}
use Rattle.mf_gate.proofs.Passing.{publishes}
use Rattle.mf_gate.proofs.gate.Gate.publish.Goals as goal

pub set-requires-clause-may : goal.set-requires-clause-may
set-requires-clause-may c = let g = c.args.self.now in let p = c.args.pass.now.place in
    publishes (about g) g.board.shared.table_id.slots p.id p.me c.requires.at.1 c.args.next c.requires.may
