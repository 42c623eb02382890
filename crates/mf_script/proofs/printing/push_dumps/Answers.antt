use Rattle.std.proofs.Common.{◌++◌, ◌∙◌, sym, ap, map, take}
use Rattle.std.proofs.lemmas.List.{map_more}
use Rattle.mf_lines.specs.declared.forms.Form.TheVariants as says
use Rattle.mf_lines.specs.Meaning.{names_in}
use Rattle.mf_script.specs.Printing.{lines_text}
use Rattle.mf_script.proofs.TextLemmas.{none_yet, add_form}
use Rattle.mf_script.proofs.printing.push_dumps.Goals as goal

pub loop-file-init : goal.loop-file-init
loop-file-init c = none_yet (names_in c.args.files.now) c.args.out.now.items

pub loop-file-preserved : goal.loop-file-preserved
loop-file-preserved c =
    c.in_ok-push_dump.ensures
    ∙ add_form (names_in c.args.files.now) c.args.out.now.items c.loop-file.out.items
    (map says.Dump (take c.loop-file.file-index c.args.dumps.now)) _ c.loop-file.invariant
    ∙ ap (λ fs. c.args.out.now.items ++ lines_text (names_in c.args.files.now) fs)
    (sym (map_more says.Dump c.args.dumps.now c.loop-file.file-index _ c.loop-file-test.true))
