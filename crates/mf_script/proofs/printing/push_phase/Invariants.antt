use Rattle.std.proofs.Common.{◌≡◌, ◌++◌, take}
use Rattle.mf_lines.specs.declared.parts.Item.TheVariants as item
use Rattle.mf_script.specs.Printing.{item_forms}
use Rattle.mf_script.specs.Printing.{lines_text}
use Rattle.mf_lines.specs.Meaning.{names_in}
use Rattle.mf_script.proofs.printing.push_phase.Given as goal

abbrev pub invariant-loop-client : goal.invariant-loop-client
invariant-loop-client l =
    l.out.items ≡ l.fn.out.items ++ lines_text (names_in l.files)
    (item_forms (item.Phase (take l.client-index l.clients)))
