use Rattle.std.proofs.Common.{rules, ◌≡◌, Some, None, length, sym, ap, ◌∙◌, arith, ⊎_elim, ◌≢◌, ◌<◌}
use Rattle.mf_gate.specs.declared.known.About.{About}
use Rattle.mf_gate.specs.declared.known.Known.{Known}
use Rattle.mf_gate.specs.Passes.{about}
use Rattle.mf_gate.specs.Table.{file_of, Mine}
use Rattle.atomic_table.specs.Table.{rest}
use Rattle.mf_gate.proofs.Named.{takes, came_out, same_first, some_same, was_taken, line_low}
use Rattle.mf_gate.proofs.gate.Gate.take.Goals as goal

pub change-met-requires-clause-may : goal.change-met-requires-clause-may
change-met-requires-clause-may c = let g = c.args.self.now in let p = c.args.pass.now in let me = p.place.me in
    let n = c.args.name in
    let same = g.stages_are ∙ sym (ap (λ (k : About). length k.book.shape.stages) c.requires.at.1) in
    takes (about g) g.board.shared.table_id.slots p.place.id g.stages me c.requires.at.1 same n c.requires.may

pub unreachable-requires : goal.unreachable-requires
unreachable-requires c = let p = c.args.pass.now in let me = p.place.me in let n = c.args.name in
    let out = came_out n c.change-met.result _ me c.change-met.new.place.me c.change-met.ensures.row
    c.if-met-eq-HERE.true
    c.requires.may.2 in
    let z : None ≡ Some ((file_of me.0.about).cell n) = sym c.in_default.is ∙ same_first n c.exchange-slot.result
    (Some ((file_of me.0.about).cell n)) (rest c.change-met.new.place.me.1) me.1 (sym c.exchange-slot.ensures.2
    ∙ out) in cc

pub overflow_cast-result : goal.overflow_cast-result
overflow_cast-result c = let me = c.args.pass.now.place.me in
    let low = line_low me.0.about me.0.view c.args.name c.change-met.result c.change-met.ensures.row.met
    c.requires.may.2 (search rules) in omega arith

pub returns-in-Some-clause-row : goal.returns-in-Some-clause-row
returns-in-Some-clause-row c = let p = c.args.pass.now in let me = p.place.me in let n = c.args.name in
    let t = c.change-met.ensures.row in
    let out = came_out n c.change-met.result _ me c.change-met.new.place.me t c.if-met-eq-HERE.true c.requires.may.2
    in (
      c.change-met.result,
      record {
        becomes = ap (λ (m : Mine). m.0.view) c.exchange-slot.ensures.3 ∙ ap (λ (z : Known). z.view) t.view;
        met = t.met;
      },
      (
        c.if-met-eq-HERE.true,
        some_same c.in-Some.chunk ((file_of me.0.about).cell n) (sym c.in-Some.is ∙ same_first n c.exchange-slot.result
            (Some ((file_of me.0.about).cell n)) (rest c.change-met.new.place.me.1) me.1
            (sym c.exchange-slot.ensures.2 ∙ out)),
      ),
    )

pub returns-else-met-ge-LOST-clause-row : goal.returns-else-met-ge-LOST-clause-row
returns-else-met-ge-LOST-clause-row c = let me = c.args.pass.now.place.me in let n = c.args.name in
    let t = c.change-met.ensures.row in let x = c.change-met.result in
    let miss : x ≢ 1 = search rules in let low : x < 4 = search rules in
    let is : x ≡ 2 = ⊎_elim (λ e. absurd (miss e)) (λ q. ⊎_elim (λ e. e) (λ l. absurd (omega arith)) q)
    (was_taken me.0.about me.0.view n x t.met c.requires.may) in (
      x,
      record { becomes = ap (λ (z : Known). z.view) t.view; met = t.met },
      is,
    )
