use Rattle.mf_repair.proofs.Mended.{Stripes}
use Rattle.mf_repair.proofs.repairing.repair_stripes.Given as goal

abbrev pub invariant-loop-j : goal.invariant-loop-j
invariant-loop-j g l = Stripes l.g l.j (g.A.Access.actor l.fn.access) (g.A.Access.actor l.access)
