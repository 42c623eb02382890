use Rattle.std.proofs.Common.{◌<◌}
use Rattle.mf_route.specs.Tables.{IsChoice}
use Rattle.mf_route.proofs.table.best_choice.Given as goal

-- the best of what was tried
abbrev pub invariant-loop-j : goal.invariant-loop-j
invariant-loop-j l = record {
  later : l.i < l.j;
  best : IsChoice l.terms l.table l.i l.j l.best;
}
