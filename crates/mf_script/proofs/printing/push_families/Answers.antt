use Rattle.std.proofs.Common.{◌++◌, [], ◌∙◌, ap, map, take}
use Rattle.std.specs.List.{flat_map}
use Rattle.mf_script.specs.Printing.{block_forms}
use Rattle.mf_script.specs.Scripts.{block_of}
use Rattle.mf_script.specs.Printing.{lines_text}
use Rattle.mf_script.proofs.TextLemmas.{none_yet, add_forms, block_step}
use Rattle.mf_script.proofs.printing.push_families.Goals as goal

pub loop-named-init : goal.loop-named-init
loop-named-init c = none_yet [] c.args.out.now.items

pub loop-named-preserved : goal.loop-named-preserved
loop-named-preserved c =
    c.in_ok-push_family.ensures
    ∙ add_forms [] c.args.out.now.items c.loop-named.out.items
    (flat_map block_forms (map block_of (take c.loop-named.named-index c.args.families.now)))
    (block_forms (block_of c.named-item.result)) c.loop-named.invariant
    ∙ ap (λ fs. c.args.out.now.items ++ lines_text [] fs)
    (block_step c.args.families.now c.loop-named.named-index c.named-item.result c.loop-named-test.true
    c.named-item.is)
