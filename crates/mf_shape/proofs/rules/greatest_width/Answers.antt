use Rattle.std.proofs.Common.{arith}
use Rattle.mf_shape.proofs.Widths.{max_width-more}
use Rattle.mf_shape.proofs.rules.greatest_width.Goals as goal

pub loop-stage-preserved : goal.loop-stage-preserved
loop-stage-preserved c =
    let e = max_width-more c.args.stages.now c.loop-stage.stage-index (omega arith) in
    grind arith
