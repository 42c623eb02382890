use Rattle.std.proofs.Common.{◌∙◌, arith}
use Rattle.std.proofs.lemmas.Result.{err_from_is_err_and}
use Rattle.mf_read.proofs.Handed.{one_handed, front_handed}
use Rattle.mf_read.proofs.reading.hand_on.Goals as goal

pub returns-in_err-take : goal.returns-in_err-take
returns-in_err-take g c =
    let (front, rest, e, told) = front_handed c.args.left c.loop-chunk.chunk-index c.args.chunks.now
    (g.T.Taker.taken c.args.taker.now) (g.T.Taker.taken c.loop-chunk.taker) c.loop-chunk.room c.loop-chunk.invariant in
    let p = err_from_is_err_and c.from_residual.result c.from_residual.ensures.1 in
    rw p.1 (front, rest, e, c.in_err-take.ensures ∙ told)

pub loop-chunk-preserved : goal.loop-chunk-preserved
loop-chunk-preserved g c =
    let end = c.min-end.ensures in
    one_handed c.args.left c.loop-chunk.chunk-index c.args.chunks.now (g.T.Taker.taken c.args.taker.now)
    (g.T.Taker.taken c.loop-chunk.taker) (g.T.Taker.taken c.take.new.self) c.bytes-bytes.result.now c.chunk-item.result
    c.loop-chunk.room c.min-end.result c.loop-chunk.invariant c.loop-chunk-test.true
    (c.bytes-bytes.ensures.same ∙ c.chunk-item.is) (omega arith) c.in_ok-take.ensures
