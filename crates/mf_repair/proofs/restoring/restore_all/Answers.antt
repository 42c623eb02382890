use Rattle.std.proofs.Common.{◌++◌, ◌∷◌, [], append_assoc, ap, sym, ◌∙◌, arith}
use Rattle.std.proofs.lemmas.List.{length_push}
use Rattle.mf_places.specs.declared.Name.TheVariants.{Data}
use Rattle.mf_repair.proofs.Restored.{restoring_more, may_restore, at_hand}
use Rattle.mf_repair.proofs.restoring.restore_all.Goals as goal

pub restore-requires-clause-may : goal.restore-requires-clause-may
restore-requires-clause-may g c = let v = c.loop-cell.invariant in
    may_restore c.args.g c.args.j c.args.lost.now c.loop-cell.i (Data 0) c.requires.mender v.restoring
    (at_hand _ c.args.lost.now c.loop-cell.yielded c.requires.cells v.rest c.in-Some.ensures.steps.0 v.count)

pub loop-cell-preserved : goal.loop-cell-preserved
loop-cell-preserved g c =
    let v = c.loop-cell.invariant in
    let rest = v.rest ∙ ap (λ l. c.loop-cell.yielded ++ l) c.in-Some.ensures.steps.0 in
    let more = length_push c.loop-cell.yielded c.in-Some.cell in
    let room = v.room in
    let spare = c.restore.ensures.spare in
    let count = v.count in
    record {
      count = omega arith;
      rest = rest ∙ sym (append_assoc c.loop-cell.yielded (c.in-Some.cell ∷ []) c.next.new.self.rest.items);
      restoring = restoring_more c.args.g c.args.j c.args.lost.now c.loop-cell.i (Data 0) c.requires.apart v.restoring
          (at_hand _ c.args.lost.now c.loop-cell.yielded c.requires.cells v.rest c.in-Some.ensures.steps.0 v.count)
          c.restore.ensures.goes;
      room = omega arith;
    }
