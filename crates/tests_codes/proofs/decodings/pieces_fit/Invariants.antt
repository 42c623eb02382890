use Rattle.std.proofs.Common.{◌≡◌, ℕ, ◌<◌, List, Option, length, get_or}
use Rattle.std.specs.Prelude.{IfSome}
use Rattle.tests_codes.proofs.decodings.pieces_fit.Given as goal

abbrev pub invariant-loop-piece : goal.invariant-loop-piece
invariant-loop-piece l = (k : ℕ) (d : Option (List ℕ)) → k < l.piece-index
    → IfSome (get_or l.pieces k d) (λ bytes. length bytes ≡ l.size)
