use Rattle.std.specs.String.{string_bytes}
use Rattle.mf_script.specs.Seeds.{file_line}
use Rattle.mf_script.proofs.Drawing.{Drawn}
use Rattle.mf_script.proofs.seeds.write_files.Given as goal

abbrev pub invariant-loop-file : goal.invariant-loop-file
invariant-loop-file l = Drawn file_line 2 l.fn.draws.state (string_bytes l.fn.out) l.file (string_bytes l.out) l.draws.state
