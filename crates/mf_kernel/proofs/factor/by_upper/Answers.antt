use Rattle.std.proofs.Common.{◌/◌, arith}
use Rattle.std.proofs.lemmas.Simd.{zip2_splat}
use Rattle.mf_kernel.proofs.Tables.{down, high_ok, looked_up}
use Rattle.mf_kernel.proofs.factor.by_upper.Goals as goal

pub swizzle : goal.swizzle
swizzle c = high_ok c.args.lanes c.fits-lanes

pub returns : goal.returns
returns c = λ f table.
    let v = c.args.lanes in
    looked_up f c.args.table (λ x. x / 16) v _ table c.fits-lanes (zip2_splat down v 32 4 c.fits-lanes.0)
    (λ x h. omega arith)
