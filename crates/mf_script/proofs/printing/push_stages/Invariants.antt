use Rattle.std.proofs.Common.{◌≡◌, ◌++◌, [], map, take}
use Rattle.mf_lines.specs.declared.forms.Form.TheVariants as says
use Rattle.mf_script.specs.Printing.{lines_text}
use Rattle.mf_script.proofs.printing.push_stages.Given as goal

abbrev pub invariant-loop-stage : goal.invariant-loop-stage
invariant-loop-stage l = l.out.items ≡ l.fn.out.items ++ lines_text [] (map says.Stage (take l.stage-index l.stages))
