use Rattle.std.proofs.Common.{◌≡◌, ◌+◌, [], ◌∷◌, Some, length, sym, refl, ap, ◌∙◌, subst}
use Rattle.mf_gate.specs.declared.deed.Deed.TheVariants as deed
use Rattle.mf_gate.specs.declared.known.About.{About}
use Rattle.mf_gate.specs.Passes.{about}
use Rattle.mf_gate.specs.Rows.{row_at}
use Rattle.mf_gate.specs.Table.{Mine, Takes}
use Rattle.atomic_table.specs.Table.{rest}
use Rattle.mf_gate.proofs.Named.{gives, bare_at}
use Rattle.mf_gate.proofs.gate.Gate.give.Goals as goal

pub set-requires-clause-may : goal.set-requires-clause-may
set-requires-clause-may c = let g = c.args.self.now in let p = c.args.pass.now in let me = p.place.me in
    let n = c.args.name in
    let same = g.stages_are ∙ sym (ap (λ (k : About). length k.book.shape.stages) c.requires.at.1) in
    let seat = c.exchange-empty.new.seat in
    let bare_now : rest me.1 ≡ [] = ap rest (p.carries ∙ bare_at n me.0.view.inside.getting c.requires.may.1) in
    let e : seat.me ≡ (me.0, (n, Some c.args.bytes) ∷ []) =
    c.exchange-empty.ensures.3 ∙ (λ j. (me.0, (n, Some c.args.bytes) ∷ bare_now j)) in
    subst (λ (m : Mine). Takes (about g) (row_at m (deed.Give n)) g.board.shared.table_id.slots seat.id m
    (g.stages + 2 + n)
    (λ x. 1)) (sym e) (gives (about g) g.board.shared.table_id.slots seat.id g.stages (
      me.0,
      (n, Some c.args.bytes) ∷ [],
    )
    c.requires.at.1 same n c.args.bytes c.requires.may c.requires.cell refl)
