use Rattle.std.proofs.Common.{bit_xor, arith}
use Rattle.mf_code.specs.Field.{times}
use Rattle.mf_kernel.proofs.Zips.{zip2_from_places}
use Rattle.mf_kernel.proofs.kernels.add_products.Goals as goal

pub returns : goal.returns
returns c =
    zip2_from_places (λ y x. bit_xor y (times c.args.factor.now x)) c.args.dst.now c.args.src.now c.loop-i.dst
    (omega arith) (omega arith)
    (λ k lt. c.loop-i.invariant.0 k (omega arith))
