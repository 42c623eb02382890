use Rattle.std.proofs.Common.{◌≤◌, ◌+◌, ◌*◌, ◌++◌, ℕ, List, map, take, drop}
use Rattle.mf_vault.specs.Actor.{Actor}
use Rattle.mf_client.specs.Acts.{LosesAll}
use Rattle.mf_client.specs.Steps.{AllLosable, HaveRoom, rows}
use Rattle.mf_client.proofs.losing.lose_all.Given as goal

abbrev pub invariant-loop-i : goal.invariant-loop-i
invariant-loop-i g l = record {
  lost : (n : ℕ) (after : List Actor)
      → LosesAll l.line (drop l.i (rows l.lists)) n (drop l.i (map g.A.Access.actor l.accesses)) after
      → LosesAll l.line (rows l.lists) (l.count + n) (map g.A.Access.actor l.fn.accesses)
      (take l.i (map g.A.Access.actor l.accesses) ++ after);
  may : AllLosable l.line (drop l.i (rows l.lists)) (drop l.i (map g.A.Access.actor l.accesses));
  room : HaveRoom (drop l.i (rows l.lists)) (drop l.i (map g.A.Access.spare l.accesses));
  low : l.count ≤ l.i * 300000;
}
