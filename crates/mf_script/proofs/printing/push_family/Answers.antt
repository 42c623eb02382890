use Rattle.std.proofs.Common.{◌++◌, [], ◌∙◌, ap, map}
use Rattle.mf_lines.specs.declared.forms.Form.TheVariants as says
use Rattle.mf_script.specs.Scripts.{block_of}
use Rattle.mf_script.specs.Printing.{next_line, lines_text}
use Rattle.mf_script.proofs.TextLemmas.{on_ok-map, block_lines}
use Rattle.mf_script.proofs.printing.push_family.Goals as goal

pub returns : goal.returns
returns c =
    let stages = c.stages.ensures.value ∙ ap (λ shape. shape.stages) c.shape.ensures.value in
    let front =
    c.in_ok-push_points.ensures
    ∙ ap (λ ps. c.args.out.now.items ++ next_line [] (says.Points ps)) c.points.ensures.value in
    on_ok-map c.push_stages.result _ _ (λ is. is ∙ (λ i. front i ++ lines_text [] (map says.Stage (stages i)))
    ∙ block_lines c.args.out.now.items (block_of c.args.named.now)) c.push_stages.ensures
