use Rattle.std.proofs.Common.{◌++◌, ◌∙◌, ap, take}
use Rattle.std.specs.List.{flat_map}
use Rattle.mf_script.specs.Printing.{item_forms}
use Rattle.mf_script.specs.Printing.{lines_text}
use Rattle.mf_lines.specs.Meaning.{names_in}
use Rattle.mf_script.proofs.TextLemmas.{none_yet, add_forms, item_step}
use Rattle.mf_script.proofs.printing.push_items.Goals as goal

pub loop-item-init : goal.loop-item-init
loop-item-init c = none_yet (names_in c.args.files.now) c.args.out.now.items

pub loop-item-preserved : goal.loop-item-preserved
loop-item-preserved c =
    c.in_ok-push_item.ensures
    ∙ add_forms (names_in c.args.files.now) c.args.out.now.items c.loop-item.out.items
    (flat_map item_forms (take c.loop-item.item-index c.args.items.now))
    (item_forms c.item-item.result) c.loop-item.invariant
    ∙ ap (λ fs. c.args.out.now.items ++ lines_text (names_in c.args.files.now) fs)
    (item_step c.args.items.now c.loop-item.item-index c.item-item.result c.loop-item-test.true c.item-item.is)
