use Rattle.std.proofs.Common.{◌≡◌, ◌++◌, [], map, take}
use Rattle.std.specs.List.{flat_map}
use Rattle.mf_script.specs.Printing.{block_forms}
use Rattle.mf_script.specs.Scripts.{block_of}
use Rattle.mf_script.specs.Printing.{lines_text}
use Rattle.mf_script.proofs.printing.push_families.Given as goal

abbrev pub invariant-loop-named : goal.invariant-loop-named
invariant-loop-named l =
    l.out.items ≡ l.fn.out.items ++ lines_text [] (flat_map block_forms (map block_of (take l.named-index l.families)))
