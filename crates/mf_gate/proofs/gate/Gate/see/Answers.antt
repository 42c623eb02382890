use Rattle.std.proofs.Common.{rules, ap, ◌∙◌, sym, length, arith}
use Rattle.mf_gate.specs.declared.known.About.{About}
use Rattle.mf_gate.specs.Passes.{about}
use Rattle.mf_gate.proofs.Named.{sees, line_low}
use Rattle.mf_gate.proofs.gate.Gate.see.Goals as goal

pub load-met-requires-clause-may : goal.load-met-requires-clause-may
load-met-requires-clause-may c = let g = c.args.self.now in let p = c.args.pass.now.place in
    sees (about g) g.board.shared.table_id.slots p.id g.stages p.me c.requires.at.1
    (g.stages_are ∙ sym (ap (λ (k : About). length k.book.shape.stages) c.requires.at.1)) c.args.name c.requires.may

pub overflow_cast-result : goal.overflow_cast-result
overflow_cast-result c = let me = c.args.pass.now.place.me in
    let low = line_low me.0.about me.0.view c.args.name c.load-met.result c.load-met.ensures.row.met c.requires.may.2
    (search rules) in omega arith
