use Rattle.std.proofs.Common.{rules, ◌≡◌, ℕ, ◌+◌, [], ◌∷◌, None, length, sym, refl, ap, ◌∙◌, subst, arith}
use Rattle.mf_machine.specs.declared.view.View.{View}
use Rattle.mf_machine.specs.File.{name_word}
use Rattle.mf_machine.specs.Steps as row
use Rattle.mf_machine.specs.Worlds.{counted}
use Rattle.mf_gate.specs.declared.deed.Deed.TheVariants as deed
use Rattle.mf_gate.specs.declared.known.About.{About}
use Rattle.mf_gate.specs.declared.known.Known.{Known}
use Rattle.mf_gate.specs.Passes.{about}
use Rattle.mf_gate.specs.Rows.{row_at}
use Rattle.mf_gate.specs.Table.{after, file_of, Mine, Takes}
use Rattle.atomic_table.specs.Table.{rest}
use Rattle.mf_gate.proofs.Named.{drops, drops_again, is_dropped, came_out, bare_none, tries_is}
use Rattle.mf_gate.proofs.gate.Gate.drop_name.Goals as goal

pub change-met-requires-clause-may : goal.change-met-requires-clause-may
change-met-requires-clause-may c = let g = c.args.self.now in let p = c.args.pass.now in let me = p.place.me in
    let n = c.args.name in
    let same = g.stages_are ∙ sym (ap (λ (k : About). length k.book.shape.stages) c.requires.at.1) in
    drops (about g) g.board.shared.table_id.slots p.place.id g.stages me c.requires.at.1 same n c.requires.may

pub set-requires-clause-may : goal.set-requires-clause-may
set-requires-clause-may c = let g = c.args.self.now in let p = c.args.pass.now in let me = p.place.me in
    let n = c.args.name in
    let same = g.stages_are ∙ sym (ap (λ (k : About). length k.book.shape.stages) c.requires.at.1) in
    let t = c.change-met.ensures.row in let seat = c.exchange-chunk.new.seat in let free = c.requires.may.1 in
    let none : me.0.view.inside.getting ≡ 0 = omega arith in let hit = c.if-met-eq-HERE.true in
    let u : Known = record me.0 { view = after (row.drop_row (file_of me.0.about) n) 1 me.0.view } in
    let out = came_out n c.change-met.result _ me c.change-met.new.place.me t hit c.requires.may.2 in
    let bare_now : rest c.change-met.new.place.me.1 ≡ [] =
    ap rest out ∙ (p.carries ∙ bare_none me.0.view.inside.getting none) in
    let e : seat.me ≡ (u, (n, None) ∷ []) = c.exchange-chunk.ensures.3 ∙ (λ j. (
      (t.view
          ∙ ap (λ (x : ℕ). record me.0 { view = after (row.drop_row (file_of me.0.about) n) x me.0.view }) hit) j,
      (n, None) ∷ bare_now j,
    )) in
    subst (λ (m : Mine). Takes (about g) (row_at m (deed.Dropped n)) g.board.shared.table_id.slots seat.id m
    (g.stages + 2 + n) (λ x. 3)) (sym e) (is_dropped (about g) g.board.shared.table_id.slots seat.id g.stages
    (u, (n, None) ∷ []) c.requires.at.1 same n (p.active, refl) refl)

pub change-requires-clause-may : goal.change-requires-clause-may
change-requires-clause-may c = let g = c.args.self.now in let p = c.args.pass.now in let me = p.place.me in
    let n = c.args.name in
    let t = c.change-met.ensures.row in let now = c.change-met.new.place in let x = c.change-met.result in
    let of : now.me.0.about ≡ about g = ap (λ (z : Known). z.about) t.view ∙ c.requires.at.1 in
    let same = g.stages_are ∙ sym (ap (λ (k : About). length k.book.shape.stages) of) in
    let tries : row.drop_answer x ≡ row.tries = tries_is x (search rules) (search rules) in
    let e : now.me.0.view ≡ counted (name_word (file_of me.0.about) n) x (row.trying n x me.0.view) =
    ap (λ (z : Known). z.view) t.view
    ∙ ap (λ (a : row.Drop). counted (name_word (file_of me.0.about) n) x (row.drop_view a n x me.0.view)) tries in
    drops_again (about g) g.board.shared.table_id.slots now.id g.stages now.me of same n x
    (subst (row.MayDropAgain n) (sym e) (p.active, refl)) (ap (λ (v : View). v.inside.tried) e)
