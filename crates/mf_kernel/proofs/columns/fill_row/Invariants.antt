-- Each byte so far is the sum over the pieces so far.
use Rattle.std.proofs.Common.{◌≡◌, ℕ, ◌+◌, ◌<◌, length, map, get_or}
use Rattle.mf_code.specs.Rows.{column}
use Rattle.mf_kernel.proofs.Blocks.{scaled_sum}
use Rattle.mf_kernel.proofs.columns.fill_row.Given as goal

abbrev pub invariant-loop-t : goal.invariant-loop-t
invariant-loop-t g l =
    (x : ℕ) → x < length l.out
    → get_or l.out x 0
    ≡ scaled_sum (λ t. get_or l.fn.row t 0) l.t (column (l.fn.start + x) (map g.P.Bytes.list l.fn.pieces))
