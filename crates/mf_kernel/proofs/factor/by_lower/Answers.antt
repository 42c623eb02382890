use Rattle.std.proofs.Common.{bit_and, arith}
use Rattle.std.proofs.lemmas.Nat.{and_le_r}
use Rattle.std.proofs.lemmas.Simd.{zip2_splat}
use Rattle.mf_kernel.proofs.Tables.{low_ok, looked_up}
use Rattle.mf_kernel.proofs.factor.by_lower.Goals as goal

pub swizzle : goal.swizzle
swizzle c = low_ok c.args.lanes c.fits-lanes

pub returns : goal.returns
returns c = λ f table.
    let v = c.args.lanes in
    looked_up f c.args.table (λ x. bit_and x 15) v _ table c.fits-lanes (zip2_splat bit_and v 32 15 c.fits-lanes.0)
    (λ x h. omega (arith, and_le_r x 15))
