use Rattle.mf_read.proofs.Handed.{Handing}
use Rattle.mf_read.proofs.reading.hand_on.Given as goal

abbrev pub invariant-loop-chunk : goal.invariant-loop-chunk
invariant-loop-chunk g l = Handing l.fn.left l.chunk-index l.fn.chunks (g.T.Taker.taken l.fn.taker)
    (g.T.Taker.taken l.taker) l.room
