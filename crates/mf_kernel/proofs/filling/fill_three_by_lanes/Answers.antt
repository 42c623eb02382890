use Rattle.std.proofs.Common.{◌+◌, length, map, arith}
use Rattle.mf_code.specs.Rows.{column}
use Rattle.mf_code.proofs.Lists.{list_of_from}
use Rattle.mf_kernel.specs.Dots.{dot}
use Rattle.mf_kernel.proofs.Dotted.{lanes_front}
use Rattle.mf_kernel.proofs.filling.fill_three_by_lanes.Goals as goal

pub loop-block-preserved : goal.loop-block-preserved
loop-block-preserved g c =
    let a = c.args in
    let lists = map g.P.Bytes.list a.pieces.now in
    let s = c.block_start-at in
    let l = c.lane_sums-sums in
    let n = length a.a.now in
    let b = c.loop-block.block in (
      lanes_front (λ k. dot a.first.now (column (a.start + k) lists)) n b s.result c.loop-block.a
          c.put_lanes.new.bytes
          l.result.first
          (omega arith) (omega arith) s.ensures.joined (λ k lt below. s.ensures.reach k lt (omega arith))
          l.ensures.lengths.0 c.put_lanes.ensures l.ensures.first c.loop-block.invariant.0,
      lanes_front (λ k. dot a.second.now (column (a.start + k) lists)) n b s.result c.loop-block.b
          c.put_lanes-in-loop-block.new.bytes
          l.result.second
          (omega arith) (omega arith) s.ensures.joined (λ k lt below. s.ensures.reach k lt (omega arith))
          l.ensures.lengths.1 c.put_lanes-in-loop-block.ensures l.ensures.second c.loop-block.invariant.1,
      lanes_front (λ k. dot a.third.now (column (a.start + k) lists)) n b s.result c.loop-block.c
          c.put_lanes-in-loop-block-2.new.bytes
          l.result.third
          (omega arith) (omega arith) s.ensures.joined (λ k lt below. s.ensures.reach k lt (omega arith))
          l.ensures.lengths.2 c.put_lanes-in-loop-block-2.ensures l.ensures.third c.loop-block.invariant.2,
    )

pub returns-clause-first : goal.returns-clause-first
returns-clause-first g c =
    let a = c.args in
    list_of_from (length a.a.now) (λ x. dot a.first.now (column (a.start + x) (map g.P.Bytes.list a.pieces.now)))
    c.loop-block.a (omega arith) (λ x lt. c.loop-block.invariant.0 x (omega arith) lt)

pub returns-clause-second : goal.returns-clause-second
returns-clause-second g c =
    let a = c.args in
    list_of_from (length a.a.now) (λ x. dot a.second.now (column (a.start + x) (map g.P.Bytes.list a.pieces.now)))
    c.loop-block.b (omega arith) (λ x lt. c.loop-block.invariant.1 x (omega arith) lt)

pub returns-clause-third : goal.returns-clause-third
returns-clause-third g c =
    let a = c.args in
    list_of_from (length a.a.now) (λ x. dot a.third.now (column (a.start + x) (map g.P.Bytes.list a.pieces.now)))
    c.loop-block.c (omega arith) (λ x lt. c.loop-block.invariant.2 x (omega arith) lt)
