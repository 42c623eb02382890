use Rattle.std.proofs.Common.{◌≡◌, take}
use Rattle.mf_top.specs.ScriptRun.{new_from}
use Rattle.mf_top.proofs.phases.new_files.Given as goal

abbrev pub invariant-loop-n : goal.invariant-loop-n
invariant-loop-n l = l.files.items ≡ new_from l.script 0 (take l.n l.script.files)
