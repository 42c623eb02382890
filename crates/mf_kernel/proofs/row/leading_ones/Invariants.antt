-- The coefficients so far are ones.
use Rattle.std.proofs.Common.{◌≡◌, ℕ, ◌<◌, get_or}
use Rattle.mf_kernel.proofs.row.leading_ones.Given as goal

abbrev pub invariant-loop-t : goal.invariant-loop-t
invariant-loop-t l = (i : ℕ) → i < l.t → get_or l.coefficients i 0 ≡ 1
