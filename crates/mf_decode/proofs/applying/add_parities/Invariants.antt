use Rattle.std.proofs.Common.{◌≡◌, ℕ, ◌+◌, ◌<◌, List, All, get_or, length, bit_xor}
use Rattle.mf_code.specs.Field.{times}
use Rattle.mf_code.specs.Sums.{sum_below}
use Rattle.mf_code.specs.Rows.{column}
use Rattle.mf_matrix.specs.Matrix.{entry}
use Rattle.mf_decode.proofs.applying.add_parities.Given as goal

abbrev pub invariant-loop-j : goal.invariant-loop-j
invariant-loop-j l = record {
  sums : (x : ℕ) → x < length l.out
      → get_or l.out x 0
      ≡ bit_xor (get_or l.fn.out x 0)
      (sum_below l.j
      (λ (j : ℕ). times (entry l.fn.inverse l.fn.e j) (get_or (column (l.fn.start + x) l.fn.parities) j 0)));
  bytes : (k : ℕ) (d : List ℕ) → k < l.j → All (λ b. b < 256) (get_or l.fn.parities k d);
}
