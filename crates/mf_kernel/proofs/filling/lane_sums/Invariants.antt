-- Each lane is the sum over the pieces so far.
use Rattle.std.proofs.Common.{◌+◌, map}
use Rattle.mf_kernel.proofs.Dotted.{AreSums}
use Rattle.mf_kernel.proofs.filling.lane_sums.Given as goal

abbrev pub invariant-loop-t : goal.invariant-loop-t
invariant-loop-t g l = AreSums l.fn.first l.t (l.fn.start + l.fn.at) (map g.P.Bytes.list l.fn.pieces) l.plain

abbrev pub invariant-loop-t-2 : goal.invariant-loop-t-2
invariant-loop-t-2 g l =
    AreSums l.fn.first l.t (l.fn.start + l.fn.at) (map g.P.Bytes.list l.fn.pieces) l.a
    × AreSums l.fn.second l.t (l.fn.start + l.fn.at) (map g.P.Bytes.list l.fn.pieces) l.b
    × AreSums l.fn.third l.t (l.fn.start + l.fn.at) (map g.P.Bytes.list l.fn.pieces) l.c
