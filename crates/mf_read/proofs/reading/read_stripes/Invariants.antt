use Rattle.mf_read.proofs.Stripewise.{Reading}
use Rattle.mf_read.proofs.reading.read_stripes.Given as goal

abbrev pub invariant-loop-j : goal.invariant-loop-j
invariant-loop-j g l = Reading l.g l.j (g.T.Taker.taken l.fn.taker) (g.T.Taker.taken l.taker)
    (g.A.Access.actor l.fn.access) (g.A.Access.actor l.access)
