use Rattle.std.proofs.Common.{◌≡◌, ◌++◌, [], map, take}
use Rattle.mf_lines.specs.declared.forms.Form.TheVariants as says
use Rattle.mf_script.specs.Printing.{lines_text}
use Rattle.mf_script.proofs.printing.push_files.Given as goal

abbrev pub invariant-loop-file : goal.invariant-loop-file
invariant-loop-file l = l.out.items ≡ l.fn.out.items ++ lines_text [] (map says.File (take l.file-index l.files))
