use Rattle.std.proofs.Common.{◌≡◌, ℕ, ◌<◌, ◌≤◌, length, slice_index}
use Rattle.mf_code.specs.Field.{times}
use Rattle.mf_matrix.proofs.elimination.multiple.Given as goal

abbrev pub invariant-loop-j : goal.invariant-loop-j
invariant-loop-j l = record {
  len : length l.product ≡ 16;
  equation_len : length l.equation ≡ 16;
  rest : (k : ℕ) → l.j ≤ k → slice_index l.product k ≡ slice_index l.equation k;
  done : (k : ℕ) → k < l.j → slice_index l.product k ≡ times l.factor (slice_index l.equation k);
}
