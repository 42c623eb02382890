use Rattle.std.proofs.Common.{◌≡◌, ◌+◌, ◌≤◌, length, get_or, bit_xor, ap₂, arith}
use lib.Lanes.{zip2, chunk}
use Rattle.mf_kernel.proofs.Tables.{length-zipped, zipped_at, lanes_written, below_written, above_written}
use Rattle.mf_kernel.proofs.kernels.add_lanes.Goals as goal

pub returns-clause-lanes : goal.returns-clause-lanes
returns-clause-lanes c =
    let a = c.args in
    let f = bit_xor in
    let within : a.at + 32 ≤ length a.dst.now = omega arith in
    let are : zip2 bit_xor c.lanes_at.result c.lanes_at-2.result
    ≡ zip2 f (chunk a.at 32 a.dst.now) (chunk a.at 32 a.src.now) = ap₂ (zip2 bit_xor) c.lanes_at.ensures
    c.lanes_at-2.ensures in
    lanes_written (λ k. f (get_or a.dst.now k 0) (get_or a.src.now k 0)) a.at a.dst.now c.put_lanes.new.bytes
    (zip2 bit_xor c.lanes_at.result c.lanes_at-2.result) within
    (length-zipped f a.at a.dst.now a.src.now _ within c.requires.room are) c.put_lanes.ensures
    (zipped_at f a.at a.dst.now a.src.now _ within c.requires.room are)

pub returns-clause-below : goal.returns-clause-below
returns-clause-below c = below_written c.args.at c.args.dst.now c.put_lanes.new.bytes
    (zip2 bit_xor c.lanes_at.result c.lanes_at-2.result) c.put_lanes.ensures

pub returns-clause-above : goal.returns-clause-above
returns-clause-above c =
    let a = c.args in
    let f = bit_xor in
    let within : a.at + 32 ≤ length a.dst.now = omega arith in
    let are : zip2 bit_xor c.lanes_at.result c.lanes_at-2.result
    ≡ zip2 f (chunk a.at 32 a.dst.now) (chunk a.at 32 a.src.now) = ap₂ (zip2 bit_xor) c.lanes_at.ensures
    c.lanes_at-2.ensures in
    above_written a.at a.dst.now c.put_lanes.new.bytes (zip2 bit_xor c.lanes_at.result c.lanes_at-2.result)
    (length-zipped f a.at a.dst.now a.src.now _ within c.requires.room are) c.put_lanes.ensures
