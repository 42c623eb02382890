use Rattle.std.proofs.Common.{◌≡◌, ℕ, ◌+◌, ◌<◌, List, All, Option, get_or, length, bit_xor}
use Rattle.std.specs.Prelude.{IfSome}
use Rattle.mf_code.specs.Field.{times}
use Rattle.mf_code.specs.Sums.{sum_below}
use Rattle.mf_decode.specs.Decoding.{column_of}
use Rattle.mf_decode.specs.Columns.{there, weight_of, row_entries}
use Rattle.mf_decode.proofs.applying.add_pieces.Given as goal

abbrev pub invariant-loop-t : goal.invariant-loop-t
invariant-loop-t l = record {
  sums : (x : ℕ) → x < length l.out
      → get_or l.out x 0 ≡ bit_xor (get_or l.fn.out x 0)
      (sum_below l.t
      (λ (t : ℕ). times (weight_of (row_entries l.fn.inverse l.fn.e) l.fn.points t)
      (get_or (there (column_of (l.fn.start + x) l.fn.pieces)) t 0)));
  bytes : (k : ℕ) (d : Option (List ℕ)) → k < l.t → IfSome (get_or l.fn.pieces k d) (λ chunk. All (λ b. b < 256) chunk);
}
