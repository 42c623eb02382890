use Rattle.std.proofs.Common.{◌≡◌, ℕ, ◌+◌, ◌<◌, None, length, get_or}
use Rattle.mf_route.specs.Tables.{IsEntry}
use Rattle.mf_route.proofs.table.longer.Given as goal

-- the entries of the first candidates
abbrev pub invariant-loop-i : goal.invariant-loop-i
invariant-loop-i l = record {
  size : length l.ways.items ≡ l.i;
  each : (k : ℕ) → k < l.i
      → IsEntry l.terms l.table.room (l.table.most + 1) k (get_or l.ways.items k None);
}
