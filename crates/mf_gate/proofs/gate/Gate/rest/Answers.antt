use Rattle.std.proofs.Common.{◌+◌, sym, ap, ◌∙◌, subst, arith, get_or, None}
use Rattle.std.specs.Mem.Slots.{slots_items}
use Rattle.mf_machine.proofs.Lists.{read_at}
use Rattle.mf_gate.specs.declared.known.About.{About}
use Rattle.mf_gate.specs.Passes.{about, view}
use Rattle.mf_gate.specs.Resting.{IsResting, Leaves, rest_from}
use Rattle.mf_gate.proofs.Resting.{resting_at, leaves}
use Rattle.mf_gate.proofs.gate.Gate.rest.Goals as goal

pub rests_from-requires-clause-resting : goal.rests_from-requires-clause-resting
rests_from-requires-clause-resting c n l = let g = c.args.self in let p = c.args.pass.place in
    let e = c.close_with-ended.result in let t = c.close_with-ended.ensures.values.2 in
    let room = g.room.1 in
    subst (λ q. IsResting (get_or (slots_items e.words) (q + 2 + n) 0) (get_or (slots_items e.slots) n None))
    (sym g.stages_are)
    (resting_at (about g) p.id p.me.0 t.0 t.1.0 t.1.1 c.requires.last (slots_items e.words) (slots_items e.slots) t.2
    t.4 n (omega arith))

pub returns : goal.returns
returns c = let g = c.args.self in let p = c.args.pass.place in
    let e = c.close_with-ended.result in let t = c.close_with-ended.ensures.values.2 in
    let ws = slots_items e.words in let xs = slots_items e.slots in
    let shut = c.close_from.new.closed.items in let names = c.rests_from.new.names.items in
    let long = g.room.0 in let many = g.room.1 in let stages = g.stages_are in
    subst (λ (k : About). Leaves k (view c.args.pass) c.word-number.result shut names) (sym c.requires.at.1)
    (leaves (about g) p.id p.me.0 t.0 t.1.0 t.1.1 c.requires.last ws xs t.2 t.4 shut names c.word-number.result
    (c.close_from.ensures.long ∙ (g.room.0 ∙ g.stages_are)) (c.rests_from.ensures.long ∙ g.room.1)
    (sym (read_at ws 0 c.word-number.result 0 c.word-number.ensures))
    (λ h l. c.close_from.ensures.closed h (omega arith))
    (λ n l. c.rests_from.ensures.names n (omega arith)
    ∙ ap (λ q. rest_from (get_or ws (q + 2 + n) 0) (get_or xs n None)) g.stages_are))
