use Rattle.std.proofs.Common.{◌≡◌, ℕ, ◌<◌, slice_index}
use Rattle.mf_check.proofs.sets.data_count.Given as goal

abbrev pub invariant-loop-place : goal.invariant-loop-place
invariant-loop-place l = record {
  at : l.count ≡ l.place-index;
  data_places : (i : ℕ) → i < l.count → slice_index l.places i < l.width;
}
