use Rattle.std.proofs.Common.{◌≡◌, ◌++◌, map, take, drop}
use Rattle.mf_client.specs.Acts.{cut_all}
use Rattle.mf_client.proofs.running.cut_all.Given as goal

abbrev pub invariant-loop-i : goal.invariant-loop-i
invariant-loop-i g l = map g.A.Access.actor l.accesses
    ≡ cut_all l.away (take l.i (map g.A.Access.actor l.fn.accesses)) ++ drop l.i (map g.A.Access.actor l.fn.accesses)
