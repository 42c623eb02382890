use Rattle.std.proofs.Common.{◌≢◌, ℕ, ◌<◌, slice_index}
use Rattle.mf_check.proofs.points.next_equal.Given as goal

abbrev pub invariant-loop-j : goal.invariant-loop-j
invariant-loop-j l = (b : ℕ) → l.i < b → b < l.j → slice_index l.points l.i ≢ slice_index l.points b
