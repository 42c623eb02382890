use Rattle.std.proofs.Common.{◌≡◌, ℕ, ◌<◌, ◌++◌, List, All, Option, get_or, take}
use Rattle.std.specs.Prelude.{IfSome}
use Rattle.mf_decode.specs.Columns.{present}
use Rattle.mf_decode.proofs.applying.sources_of.Given as goal

abbrev pub invariant-loop-parity : goal.invariant-loop-parity
invariant-loop-parity l = record {
  shared : l.all.items ≡ take l.parity-index l.fn.parities;
  bytes : (k : ℕ) (d : List ℕ) → k < l.parity-index → All (λ b. b < 256) (get_or l.fn.parities k d);
}

abbrev pub invariant-loop-piece : goal.invariant-loop-piece
invariant-loop-piece l = record {
  shared : l.all.items ≡ l.fn.parities ++ present (take l.piece-index l.fn.pieces);
  bytes : (k : ℕ) (d : Option (List ℕ)) → k < l.piece-index
      → IfSome (get_or l.fn.pieces k d) (λ chunk. All (λ b. b < 256) chunk);
}
