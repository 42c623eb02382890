use Rattle.mf_gate.specs.Passes.{about}
use Rattle.mf_gate.proofs.Passing.{begins}
use Rattle.mf_gate.proofs.gate.Gate.begin.Goals as goal

pub change-requires-clause-may : goal.change-requires-clause-may
change-requires-clause-may c = let g = c.args.self.now in let p = c.args.pass.now.place in
    begins (about g) g.board.shared.table_id.slots p.id p.me c.requires.at.1 c.requires.may
