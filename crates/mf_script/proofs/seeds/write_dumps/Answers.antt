use Rattle.std.proofs.Common.{◌∙◌}
use Rattle.std.specs.Prelude.{codes}
use Rattle.std.specs.String.{string_bytes}
use Rattle.mf_script.specs.Seeds.{ended, on_file}
use Rattle.mf_script.proofs.Drawing.{no_piece, next_piece}
use Rattle.mf_script.proofs.seeds.write_dumps.Goals as goal

pub loop-file-init : goal.loop-file-init
loop-file-init c = no_piece (λ i. ended (on_file (codes "dump") i)) (string_bytes c.args.out.now)

pub loop-file-preserved : goal.loop-file-preserved
loop-file-preserved c =
    c.in_ok-write_on_file.ensures
    ∙ next_piece (λ i. ended (on_file (codes "dump") i)) (string_bytes c.args.out.now) (string_bytes c.loop-file.out)
    c.loop-file.file c.loop-file.invariant
