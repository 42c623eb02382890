use Rattle.std.proofs.Common.{◌≡◌, Option, None, replicate}
use Rattle.mf_route.specs.declared.table.Way.{Way}
use Rattle.mf_route.proofs.table.empty.Given as goal

abbrev pub invariant-loop : goal.invariant-loop
invariant-loop l = l.ways.items ≡ replicate {A = Option Way} l.counter None
