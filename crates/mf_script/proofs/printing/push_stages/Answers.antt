use Rattle.std.proofs.Common.{◌++◌, [], ◌∙◌, sym, ap, map, take}
use Rattle.std.proofs.lemmas.List.{map_more}
use Rattle.mf_lines.specs.declared.forms.Form.TheVariants as says
use Rattle.mf_script.specs.Printing.{lines_text}
use Rattle.mf_script.proofs.TextLemmas.{none_yet, add_form}
use Rattle.mf_script.proofs.printing.push_stages.Goals as goal

pub loop-stage-init : goal.loop-stage-init
loop-stage-init c = none_yet [] c.args.out.now.items

pub loop-stage-preserved : goal.loop-stage-preserved
loop-stage-preserved c =
    c.in_ok-push_stage.ensures
    ∙ add_form [] c.args.out.now.items c.loop-stage.out.items
    (map says.Stage (take c.loop-stage.stage-index c.args.stages.now)) _ c.loop-stage.invariant
    ∙ ap (λ fs. c.args.out.now.items ++ lines_text [] fs)
    (sym (map_more says.Stage c.args.stages.now c.loop-stage.stage-index _ c.loop-stage-test.true))
