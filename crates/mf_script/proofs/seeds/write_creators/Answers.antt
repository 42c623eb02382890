use Rattle.std.proofs.Common.{◌∙◌}
use Rattle.std.specs.String.{string_bytes}
use Rattle.mf_script.specs.Seeds.{creator_lines}
use Rattle.mf_script.proofs.Drawing.{no_piece, next_piece}
use Rattle.mf_script.proofs.seeds.write_creators.Goals as goal

pub loop-client-init : goal.loop-client-init
loop-client-init c = no_piece creator_lines (string_bytes c.args.out.now)

pub loop-client-preserved : goal.loop-client-preserved
loop-client-preserved c =
    c.in_ok-write_creator.ensures
    ∙ next_piece creator_lines (string_bytes c.args.out.now) (string_bytes c.loop-client.out) c.loop-client.client c.loop-client.invariant
