use Rattle.std.proofs.Common.{◌≡◌, ◌-◌, ◌<◌, length, slice_index, vec_len}
use Rattle.mf_check.specs.Search.{AllDecodable}
use Rattle.mf_check.proofs.search.+first_continued.Given as goal

abbrev pub decreases-first_continued : goal.decreases-first_continued
decreases-first_continued l = length l.points.now - vec_len l.places.now

abbrev pub invariant-loop-place : goal.invariant-loop-place
invariant-loop-place l = record {
  same : l.places.items ≡ l.initial.places.items;
  room : length l.initial.places.items < length l.points;
  done : AllDecodable l.points l.width l.initial.places.items l.from
      (λ s. slice_index s (length l.initial.places.items) < l.place);
}
