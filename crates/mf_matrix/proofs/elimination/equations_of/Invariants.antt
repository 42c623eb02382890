use Rattle.std.proofs.Common.{◌≡◌, ◌≤◌, ℕ, ◌<◌, ◌+◌, length, slice_index}
use Rattle.mf_matrix.specs.Tables.{IsTable, IsBytes, identity_at}
use Rattle.mf_matrix.specs.Matrix.{entry}
use Rattle.mf_matrix.specs.Elimination.{coefficient}
use Rattle.mf_matrix.proofs.elimination.equations_of.Given as goal

abbrev pub invariant-loop-j : goal.invariant-loop-j
invariant-loop-j l = record {
  len : length l.equation ≡ 16;
  bytes : IsBytes (slice_index l.equation);
  left : (k : ℕ) → k < l.j → slice_index l.equation k ≡ entry l.matrix l.i k;
  right : (k : ℕ) → l.j ≤ k → slice_index l.equation k ≡ 0;
}

abbrev pub invariant-loop-i : goal.invariant-loop-i
invariant-loop-i l = record {
  len : length l.equations ≡ 8;
  bytes : IsTable (coefficient l.equations);
  left : (k j : ℕ) → k < l.i → j < l.size → coefficient l.equations k j ≡ entry l.matrix k j;
  right : (k j : ℕ) → k < l.i → j < l.size → coefficient l.equations k (l.size + j) ≡ identity_at k j;
}
