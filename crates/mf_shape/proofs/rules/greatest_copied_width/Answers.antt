use Rattle.std.proofs.Common.{arith}
use Rattle.std.proofs.lemmas.Bool.Decides.{nat_tests}
use Rattle.mf_shape.proofs.Widths.{max_copied_width-more}
use Rattle.mf_shape.proofs.rules.greatest_copied_width.Goals as goal

pub loop-stage-preserved : goal.loop-stage-preserved
loop-stage-preserved c =
    let e = max_copied_width-more c.args.stages.now c.loop-stage.stage-index (omega arith) in
    grind (arith, nat_tests)
