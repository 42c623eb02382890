use Rattle.std.specs.String.{string_bytes}
use Rattle.mf_script.specs.Seeds.{file_line}
use Rattle.mf_script.proofs.Drawing.{none_drawn, one_drawn}
use Rattle.mf_script.proofs.seeds.write_files.Goals as goal

pub loop-file-init : goal.loop-file-init
loop-file-init c = none_drawn file_line 2 c.args.draws.now.state (string_bytes c.args.out.now)

pub loop-file-preserved : goal.loop-file-preserved
loop-file-preserved c =
    one_drawn file_line 2 c.args.draws.now.state (string_bytes c.args.out.now) c.loop-file.file (string_bytes c.loop-file.out) _
    c.loop-file.draws.state _ c.loop-file.invariant c.in_ok-write_file.ensures.text c.in_ok-write_file.ensures.state
