use Rattle.mf_gate.specs.Passes.{about}
use Rattle.mf_gate.proofs.Passing.{pins}
use Rattle.mf_gate.proofs.gate.Gate.pin.Goals as goal

pub add-requires-clause-may : goal.add-requires-clause-may
add-requires-clause-may c = let g = c.args.self.now in let p = c.args.pass.now.place in
    pins (about g) g.board.shared.table_id.slots p.id p.me c.requires.at.1 c.args.slot c.args.g c.requires.may
