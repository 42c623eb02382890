use Rattle.std.proofs.Common.{◌≡◌, ◌++◌, take}
use Rattle.std.specs.List.{flat_map}
use Rattle.mf_script.specs.Printing.{item_forms}
use Rattle.mf_script.specs.Printing.{lines_text}
use Rattle.mf_lines.specs.Meaning.{names_in}
use Rattle.mf_script.proofs.printing.push_items.Given as goal

abbrev pub invariant-loop-item : goal.invariant-loop-item
invariant-loop-item l =
    l.out.items ≡ l.fn.out.items ++ lines_text (names_in l.files) (flat_map item_forms (take l.item-index l.items))
