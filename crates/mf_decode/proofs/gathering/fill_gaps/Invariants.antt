use Rattle.std.proofs.Common.{◌≡◌, ℕ, ◌<◌, List, All, Option, [], length, get_or, take}
use Rattle.std.specs.Prelude.{IfSome}
use Rattle.mf_decode.specs.Decoding.{gaps_from, filled}
use Rattle.mf_decode.proofs.gathering.fill_gaps.Given as goal

abbrev pub invariant-loop-piece : goal.invariant-loop-piece
invariant-loop-piece l = record {
  filled_so_far : l.all.items ≡ filled [] (take l.piece-index l.fn.found) l.fn.fillings;
  gaps_so_far : l.gaps ≡ length (gaps_from 0 (take l.piece-index l.fn.found));
  bytes : (k : ℕ) (d : Option (List ℕ)) → k < l.piece-index
      → IfSome (get_or l.fn.found k d) (λ chunk. All (λ b. b < 256) chunk);
}
