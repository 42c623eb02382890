use Rattle.std.proofs.Common.{◌≡◌, ℕ, ◌<◌, List, length, get_or}
use Rattle.tests_codes.proofs.decodings.parities_fit.Given as goal

abbrev pub invariant-loop-parity : goal.invariant-loop-parity
invariant-loop-parity l = (k : ℕ) (d : List ℕ) → k < l.parity-index → length (get_or l.parities k d) ≡ l.size
