use Rattle.std.proofs.Common.{◌++◌, [], ◌∙◌, ap, map, take}
use Rattle.mf_lines.specs.declared.forms.Form.TheVariants as says
use Rattle.mf_script.specs.Printing.{lines_text}
use Rattle.mf_script.proofs.TextLemmas.{none_yet, add_form, map_step}
use Rattle.mf_script.proofs.printing.push_files.Goals as goal

pub loop-file-init : goal.loop-file-init
loop-file-init c = none_yet [] c.args.out.now.items

pub loop-file-preserved : goal.loop-file-preserved
loop-file-preserved c =
    c.in_ok-push_file.ensures
    ∙ add_form [] c.args.out.now.items c.loop-file.out.items
    (map says.File (take c.loop-file.file-index c.args.files.now))
    (says.File c.file-item.result) c.loop-file.invariant
    ∙ ap (λ fs. c.args.out.now.items ++ lines_text [] fs)
    (map_step says.File c.args.files.now c.loop-file.file-index c.file-item.result c.loop-file-test.true
    c.file-item.is)
