use Rattle.std.proofs.Common.{◌≡◌, ap, arith, length}
use Rattle.mf_gate.specs.declared.known.About.{About}
use Rattle.mf_gate.specs.Passes.{about}
use Rattle.mf_gate.proofs.Passing.{looks, looked, beyond}
use Rattle.mf_gate.proofs.gate.Gate.look.Goals as goal

pub load-requires-clause-may : goal.load-requires-clause-may
load-requires-clause-may c = let g = c.args.self.now in let p = c.args.pass.now.place in
    looks (about g) g.board.shared.table_id.slots p.id p.me c.requires.at.1 c.requires.may

pub overflow_cast-result : goal.overflow_cast-result
overflow_cast-result c = let g = c.args.self.now in let me = c.args.pass.now.place.me in
    let few = g.few in let is = g.stages_are in
    let same : length me.0.about.book.shape.stages ≡ length (about g).book.shape.stages =
    ap (λ (k : About). length k.book.shape.stages) c.requires.at.1 in
    let r = (looked me.0.about me.0.view c.load.result c.load.ensures.row.met).1 in omega arith

pub returns-clause-range : goal.returns-clause-range
returns-clause-range c = let me = c.args.pass.now.place.me in
    looked me.0.about me.0.view c.load.result c.load.ensures.row.met

pub returns-clause-beyond : goal.returns-clause-beyond
returns-clause-beyond c = let me = c.args.pass.now.place.me in
    beyond me.0.about me.0.view c.load.result c.load.ensures.row.met
