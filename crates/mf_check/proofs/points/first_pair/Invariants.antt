use Rattle.std.proofs.Common.{◌≢◌, ℕ, ◌<◌, length, slice_index}
use Rattle.mf_check.proofs.points.first_pair.Given as goal

abbrev pub invariant-loop-i : goal.invariant-loop-i
invariant-loop-i l = (a b : ℕ) → a < l.i → a < b → b < length l.points → slice_index l.points a ≢ slice_index l.points b
