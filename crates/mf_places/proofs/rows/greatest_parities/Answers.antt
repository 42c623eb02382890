use Rattle.std.proofs.Common.{arith}
use Rattle.std.proofs.lemmas.Bool.Decides.{nat_tests}
use Rattle.mf_places.proofs.Counts.{max_parities-more}
use Rattle.mf_places.proofs.rows.greatest_parities.Goals as goal

pub loop-stage-preserved : goal.loop-stage-preserved
loop-stage-preserved c =
    let e = max_parities-more c.args.width c.args.stages.now c.loop-stage.stage-index (omega arith) in
    grind (arith, nat_tests)
