use Rattle.std.proofs.Common.{length}
use Rattle.mf_erasure.specs.Erasure.{entry}
use Rattle.mf_erasure.proofs.Places.{only_zero_of_erasure}
use Rattle.mf_matrix.proofs.Same.{no_kernel}
use Rattle.mf_decode.proofs.gathering.sure_plan.Goals as goal

pub unreachable-requires : goal.unreachable-requires
unreachable-requires c =
    let kernel = rw c.in-Err-Kernel.field-0-is at c.in-Err-Kernel.ensures.kernel in
    no_kernel (length c.args.erased.now) (entry c.args.points.now c.args.erased.now c.args.parities.now)
    c.in-Err-Kernel.field-0-0
    (only_zero_of_erasure c.args.width c.args.points.now c.args.erased.now c.args.parities.now c.requires.decodable
    c.requires.erasure) kernel.0
