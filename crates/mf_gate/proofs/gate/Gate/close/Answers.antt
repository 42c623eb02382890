use Rattle.std.proofs.Common.{rules, arith}
use Rattle.mf_gate.specs.Passes.{about}
use Rattle.mf_gate.proofs.Passing.{closes, few}
use Rattle.mf_gate.proofs.gate.Gate.close.Goals as goal

pub change-met-requires-clause-may : goal.change-met-requires-clause-may
change-met-requires-clause-may c = let g = c.args.self.now in let p = c.args.pass.now.place in
    closes (about g) g.board.shared.table_id.slots p.id p.me c.requires.at.1 c.args.g c.requires.may

pub overflow_cast-result : goal.overflow_cast-result
overflow_cast-result c = let me = c.args.pass.now.place.me in
    let open_now = c.if-met-lt-CLOSED.true in
    let r = few me.0.about me.0.view c.args.g c.change-met.result c.change-met.ensures.row.met c.requires.may.2
    (search rules) in omega arith
