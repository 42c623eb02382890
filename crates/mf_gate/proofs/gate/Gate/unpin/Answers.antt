use Rattle.std.proofs.Common.{◌≡◌, ap, arith, length}
use Rattle.mf_gate.specs.declared.known.About.{About}
use Rattle.mf_gate.specs.Passes.{about}
use Rattle.mf_gate.proofs.Passing.{unpins, pinned_below}
use Rattle.mf_gate.proofs.gate.Gate.unpin.Goals as goal

pub subtract-requires-clause-word : goal.subtract-requires-clause-word
subtract-requires-clause-word c = let g = c.args.self.now in let p = c.args.pass.now in let me = p.place.me in
    let words = g.words_are in let is = g.stages_are in
    let same : length me.0.about.book.shape.stages ≡ length (about g).book.shape.stages =
    ap (λ (k : About). length k.book.shape.stages) c.requires.at.1 in
    let below = pinned_below c.args.slot c.args.g (length me.0.about.book.shape.stages) me.0.view p.hold p.work
    c.requires.may.2 in omega arith

pub subtract-requires-clause-may : goal.subtract-requires-clause-may
subtract-requires-clause-may c = let g = c.args.self.now in let p = c.args.pass.now in
    unpins (about g) g.board.shared.table_id.slots p.place.id p.place.me c.requires.at.1 c.args.slot c.args.g
    p.hold p.work c.requires.may
