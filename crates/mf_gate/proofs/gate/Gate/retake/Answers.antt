use Rattle.std.proofs.Common.{◌≡◌, ◌+◌, [], ◌∷◌, Some, length, sym, refl, ap, ◌∙◌, subst, arith}
use Rattle.mf_machine.specs.Steps as row
use Rattle.mf_gate.specs.declared.deed.Deed.TheVariants as deed
use Rattle.mf_gate.specs.declared.known.About.{About}
use Rattle.mf_gate.specs.declared.known.Known.{Known}
use Rattle.mf_gate.specs.Passes.{about}
use Rattle.mf_gate.specs.Rows.{row_at}
use Rattle.mf_gate.specs.Table.{after, file_of, Mine, Takes}
use Rattle.atomic_table.specs.Table.{rest}
use Rattle.mf_gate.proofs.Named.{retakes, is_restored, bare_none, was_lost}
use Rattle.mf_gate.proofs.gate.Gate.retake.Goals as goal

pub set-requires-clause-may : goal.set-requires-clause-may
set-requires-clause-may c = let g = c.args.self.now in let p = c.args.pass.now in let me = p.place.me in
    let n = c.args.name in
    let same = g.stages_are ∙ sym (ap (λ (k : About). length k.book.shape.stages) c.requires.at.1) in
    retakes (about g) g.board.shared.table_id.slots p.place.id g.stages me c.requires.at.1 same n c.requires.may

pub set-requires-2-clause-may : goal.set-requires-2-clause-may
set-requires-2-clause-may c = let g = c.args.self.now in let p = c.args.pass.now in let me = p.place.me in
    let n = c.args.name in
    let same = g.stages_are ∙ sym (ap (λ (k : About). length k.book.shape.stages) c.requires.at.1) in
    let t = c.set.ensures.row in let seat = c.exchange-empty.new.seat in let free = c.requires.may.1 in
    let none : me.0.view.inside.getting ≡ 0 = omega arith in
    let u : Known = record me.0 { view = after (row.retake_row (file_of me.0.about) n) t.0 me.0.view } in
    let bare_now : rest c.set.new.place.me.1 ≡ [] = ap rest t.1.slots.1 ∙ (p.carries
    ∙ bare_none me.0.view.inside.getting none) in
    let e : seat.me ≡ (u, (n, Some c.args.bytes) ∷ []) =
    c.exchange-empty.ensures.3 ∙ (λ j. (t.1.view j, (n, Some c.args.bytes) ∷ bare_now j)) in
    subst (λ (m : Mine). Takes (about g) (row_at m (deed.Restored n)) g.board.shared.table_id.slots seat.id m
    (g.stages + 2 + n)
    (λ x. 1)) (sym e) (is_restored (about g) g.board.shared.table_id.slots seat.id g.stages (
      u,
      (n, Some c.args.bytes) ∷ [],
    )
    c.requires.at.1 same n c.args.bytes (p.active, refl) c.requires.cell refl)

pub returns-clause-row : goal.returns-clause-row
returns-clause-row c = let p = c.args.pass.now in let me = p.place.me in let n = c.args.name in
    let t = c.set.ensures.row in let s = c.set-2.ensures.row in let v = me.0.view in let f = file_of me.0.about in
    let e : c.exchange-empty.new.seat.me.0.view ≡ after (row.retake_row f n) t.0 v =
    ap (λ (m : Mine). m.0.view) c.exchange-empty.ensures.3 ∙ ap (λ (z : Known). z.view) t.1.view in (
      t.0,
      record { becomes = ap (λ (z : Known). z.view) s.1.view ∙ ap (row.restored n) e; met = t.1.met },
      was_lost me.0.about v n t.0 t.1.met c.requires.may,
    )
