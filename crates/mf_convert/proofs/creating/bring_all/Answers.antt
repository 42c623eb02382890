use Rattle.std.proofs.Common.{◌++◌, ◌∷◌, [], append_assoc, ap, sym, ◌∙◌, arith}
use Rattle.std.proofs.lemmas.List.{length_push}
use Rattle.mf_machine.specs.declared.answer.State.TheVariants.{Unborn}
use Rattle.mf_places.specs.declared.Name.TheVariants.{Data}
use Rattle.mf_convert.proofs.Building.{nth_held}
use Rattle.mf_convert.proofs.Bringing.{bringing_more, at_hand}
use Rattle.mf_convert.proofs.creating.bring_all.Goals as goal

pub bring_one-requires-clause-held : goal.bring_one-requires-clause-held
bring_one-requires-clause-held g c = let v = c.loop-cell.invariant in
    nth_held c.loop-cell.i (Data 0) v.bringing.builder c.requires.names
    (at_hand _ c.args.names.now c.loop-cell.yielded c.requires.cells v.rest c.in-Some.ensures.steps.0 v.count)

pub bring_one-requires-clause-marked : goal.bring_one-requires-clause-marked
bring_one-requires-clause-marked g c = let v = c.loop-cell.invariant in
    v.bringing.marked c.loop-cell.i (Data 0) Unborn (omega arith)
    (let low = at_hand _ c.args.names.now c.loop-cell.yielded c.requires.cells v.rest c.in-Some.ensures.steps.0 v.count
    in
    let long = c.requires.long in omega arith)

pub loop-cell-preserved : goal.loop-cell-preserved
loop-cell-preserved g c =
    let v = c.loop-cell.invariant in
    let rest = v.rest ∙ ap (λ l. c.loop-cell.yielded ++ l) c.in-Some.ensures.steps.0 in
    let more = length_push c.loop-cell.yielded c.in-Some.cell in
    let room = v.room in
    let spare = c.bring_one.ensures.room in
    let count = v.count in
    record {
      count = omega arith;
      rest = rest ∙ sym (append_assoc c.loop-cell.yielded (c.in-Some.cell ∷ []) c.next.new.self.rest.items);
      bringing = bringing_more c.args.names.now c.args.states.now c.loop-cell.i v.bringing c.requires.names
          c.requires.long
          (at_hand _ c.args.names.now c.loop-cell.yielded c.requires.cells v.rest c.in-Some.ensures.steps.0 v.count)
          c.bring_one.ensures.does c.bring_one.ensures.becomes;
      room = omega arith;
    }
