use Rattle.std.proofs.Common.{ℕ, ◌<◌, ◌≤◌, List, length, get_or}
use Rattle.tests_codes.proofs.blocks.reach.Given as goal

abbrev pub invariant-loop-chunk : goal.invariant-loop-chunk
invariant-loop-chunk l = (k : ℕ) (d : List ℕ) → k < l.chunk-index → l.end ≤ length (get_or l.chunks k d)
