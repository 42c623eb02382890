use Rattle.std.proofs.Common.{ℕ, ◌+◌, ◌<◌, slice_index}
use Rattle.mf_erasure.proofs.are_places.Given as goal

abbrev pub invariant-loop-k : goal.invariant-loop-k
invariant-loop-k l = record {
  below : (j : ℕ) → j < l.k → slice_index l.places j < l.count;
  rise : (j : ℕ) → j + 1 < l.k → slice_index l.places j < slice_index l.places (j + 1);
}
