use Rattle.std.proofs.Common.{◌≡◌}
use Rattle.mf_route.specs.Tables.{IsTable}
use Rattle.mf_route.proofs.table.full.Given as goal

abbrev pub invariant-loop : goal.invariant-loop
invariant-loop l = record {
  most : l.table.most ≡ l.counter;
  room : l.table.room ≡ l.room;
  holds : IsTable l.terms l.table;
}
