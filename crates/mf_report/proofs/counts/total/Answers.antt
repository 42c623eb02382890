use Rattle.std.proofs.Common.{arith}
use Rattle.mf_report.proofs.Sums.{next_fit}
use Rattle.mf_report.proofs.counts.total.Goals as goal

pub plus-sum-requires : goal.plus-sum-requires
plus-sum-requires c =
    next_fit c.args.ios.now c.loop-io.io-index c.loop-io.sum c.loop-io.invariant (omega arith) c.requires
