use Rattle.std.proofs.Common.{length, ap, ◌∙◌, sym, arith, Some}
use Rattle.std.specs.Prelude.{slice_get}
use Rattle.std.proofs.lemmas.Option.{slice_get-get_or}
use Rattle.mf_top.proofs.Running.{new_next}
use Rattle.mf_top.proofs.phases.new_files.Goals as goal

pub overflow_cast-n : goal.overflow_cast-n
overflow_cast-n c =
    record { fits = omega (arith, c.requires.files, c.loop-n-test.true, ap length c.files-line-items.ensures) }

pub new_file-requires-clause-line : goal.new_file-requires-clause-line
new_file-requires-clause-line c =
    let there = slice_get-get_or c.files-line-items.result.now c.loop-n.n c.line-item.result c.loop-n-test.true in
    ap (λ fs. slice_get fs c.loop-n.n) (sym c.files-line-items.ensures) ∙ there ∙ ap Some (sym c.line-item.is)

pub loop-n-preserved : goal.loop-n-preserved
loop-n-preserved c =
    new_next c.args.script.now c.loop-n.n c.files-line-items.result.now c.line-item.result c.loop-n.files.items
    c.in_ok-new_file.field-0 c.push.new.self.items c.files-line-items.ensures c.loop-n-test.true c.line-item.is
    c.loop-n.invariant
    c.in_ok-new_file.ensures c.in_ok-push.ensures.items
