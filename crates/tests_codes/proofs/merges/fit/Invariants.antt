use Rattle.std.proofs.Common.{◌≡◌, ℕ, ◌<◌, List, length, get_or}
use Rattle.tests_codes.proofs.merges.fit.Given as goal

abbrev pub invariant-loop-chunk : goal.invariant-loop-chunk
invariant-loop-chunk l = (k : ℕ) (d : List ℕ) → k < l.chunk-index → length (get_or l.chunks k d) ≡ l.size
