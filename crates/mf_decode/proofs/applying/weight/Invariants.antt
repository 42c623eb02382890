use Rattle.std.proofs.Common.{◌≡◌, ℕ, get_or}
use Rattle.mf_code.specs.Field.{times, power}
use Rattle.mf_code.specs.Sums.{sum_below}
use Rattle.mf_decode.specs.Columns.{row_entries}
use Rattle.mf_decode.proofs.applying.weight.Given as goal

abbrev pub invariant-loop-j : goal.invariant-loop-j
invariant-loop-j l = l.sum
    ≡ sum_below l.j
    (λ (j : ℕ). times (get_or (row_entries l.fn.inverse l.fn.e) j 0) (power (get_or l.fn.points j 0) l.fn.t))
