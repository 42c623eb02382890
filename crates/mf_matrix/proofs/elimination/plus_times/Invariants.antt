use Rattle.std.proofs.Common.{◌≡◌, ℕ, ◌<◌, ◌≤◌, length, slice_index, bit_xor}
use Rattle.mf_code.specs.Field.{times}
use Rattle.mf_matrix.proofs.elimination.plus_times.Given as goal

abbrev pub invariant-loop-j : goal.invariant-loop-j
invariant-loop-j l = record {
  len : length l.sum ≡ 16;
  equation_len : length l.equation ≡ 16;
  other_len : length l.other ≡ 16;
  rest : (k : ℕ) → l.j ≤ k → slice_index l.sum k ≡ slice_index l.equation k;
  done : (k : ℕ) → k < l.j → slice_index l.sum k ≡ bit_xor (slice_index l.equation k)
      (times l.factor (slice_index l.other k));
}
