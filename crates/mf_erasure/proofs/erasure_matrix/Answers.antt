use Rattle.std.proofs.Common.{length, arith}
use Rattle.mf_erasure.specs.Erasure.{entry}
use Rattle.mf_matrix.proofs.Grids.{filled_more}
use Rattle.mf_erasure.proofs.erasure_matrix.Goals as goal

pub loop-j-preserved : goal.loop-j-preserved
loop-j-preserved c = record {
  so_far =
      filled_more (length c.args.kept.now) (length c.args.lost.now)
      (entry c.args.points.now c.args.lost.now c.args.kept.now) c.loop-i.i c.loop-j.j c.pow.result
      c.loop-j.matrix c.put.new.self c.loop-j.invariant.so_far (omega arith) (omega arith) c.pow.ensures
      c.put.ensures.changed;
  kept = c.put.ensures.kept;
}
