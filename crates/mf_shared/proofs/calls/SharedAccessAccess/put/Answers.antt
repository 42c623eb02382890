use Rattle.std.proofs.Common.{sym, ap, ◌∙◌}
use Rattle.mf_places.specs.Names.{name_at}
use Rattle.mf_vault.specs.Facts.{cell}
use Rattle.mf_gate.specs.declared.known.About.{About}
use Rattle.mf_gate.specs.Passes.{about}
use Rattle.mf_places.specs.Facts.{BookFacts}
use Rattle.mf_places.specs.Numbers.{number_of}
use Rattle.mf_shared.proofs.Noting.{birth_meets}
use Rattle.mf_shared.proofs.calls.SharedAccessAccess.put.Goals as goal

pub birth-requires-clause-cell : goal.birth-requires-clause-cell
birth-requires-clause-cell g c = let s = c.args.self.now in let k = about s.shared.now.gate in
    let x = sym c.number-n.ensures.name ∙ ap (λ (b : BookFacts). name_at b c.number-n.result) s.shared.now.book_is in
    c.requires.cell ∙ (ap (cell k.book k.bytes) x
    ∙ ap (λ (j : About). cell j.book j.bytes (name_at j.book c.number-n.result)) (sym s.at.1))

pub returns-clause-met : goal.returns-clause-met
returns-clause-met g c = let s = c.args.self.now in
    let same = c.number-n.ensures.value ∙ ap (λ (b : BookFacts). number_of b c.args.name) s.shared.now.book_is in
    birth_meets s.shared.now s.pass c.birth.new.pass c.args.name c.number-n.result s.at.1 same c.birth.ensures.row
