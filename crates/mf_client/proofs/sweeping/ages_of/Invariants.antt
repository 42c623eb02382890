use Rattle.std.proofs.Common.{◌≡◌, map, take}
use Rattle.mf_client.specs.Sweeps.{ages_in}
use Rattle.mf_client.proofs.sweeping.ages_of.Given as goal

abbrev pub invariant-loop-access : goal.invariant-loop-access
invariant-loop-access g l = l.ages.items ≡ ages_in (take l.access-index (map g.A.Access.actor l.accesses))
