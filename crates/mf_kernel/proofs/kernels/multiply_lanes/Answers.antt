use Rattle.std.proofs.Common.{◌≡◌, get_or, map, ap, ◌∙◌}
use lib.Lanes.{chunk}
use Rattle.mf_code.specs.Field.{times}
use Rattle.mf_kernel.proofs.Tables.{length-mapped, mapped_at, lanes_written, below_written, above_written}
use Rattle.mf_kernel.proofs.kernels.multiply_lanes.Goals as goal

pub returns-clause-lanes : goal.returns-clause-lanes
returns-clause-lanes c =
    let a = c.args in
    let f = times a.factor.now in
    let are : c.product-products.result ≡ map f (chunk a.at 32 a.dst.now) = c.product-products.ensures
    ∙ ap (map f) c.lanes_at.ensures in
    lanes_written (λ k. f (get_or a.dst.now k 0)) a.at a.dst.now c.put_lanes.new.bytes c.product-products.result
    c.requires
    (length-mapped f a.at a.dst.now _ c.requires are) c.put_lanes.ensures
    (mapped_at f a.at a.dst.now _ c.requires are)

pub returns-clause-below : goal.returns-clause-below
returns-clause-below c = below_written c.args.at c.args.dst.now c.put_lanes.new.bytes c.product-products.result
    c.put_lanes.ensures

pub returns-clause-above : goal.returns-clause-above
returns-clause-above c =
    let a = c.args in
    let f = times a.factor.now in
    let are : c.product-products.result ≡ map f (chunk a.at 32 a.dst.now) = c.product-products.ensures
    ∙ ap (map f) c.lanes_at.ensures in
    above_written a.at a.dst.now c.put_lanes.new.bytes c.product-products.result
    (length-mapped f a.at a.dst.now _ c.requires are) c.put_lanes.ensures
