use Rattle.std.proofs.Common.{◌≡◌, ◌++◌, map, take}
use Rattle.mf_lines.specs.declared.forms.Form.TheVariants as says
use Rattle.mf_lines.specs.Meaning.{names_in}
use Rattle.mf_script.specs.Printing.{lines_text}
use Rattle.mf_script.proofs.printing.push_dumps.Given as goal

abbrev pub invariant-loop-file : goal.invariant-loop-file
invariant-loop-file l =
    l.out.items ≡ l.fn.out.items ++ lines_text (names_in l.files) (map says.Dump (take l.file-index l.dumps))
