use Rattle.std.proofs.Common.{◌≡◌, List, ℕ, map}
use Rattle.std.specs.List.{range_with_len}
use Rattle.mf_code.specs.Chunks.{chunks}
use Rattle.mf_convert.specs.Cells.{parities_of, rows_of}
use Rattle.mf_convert.proofs.cells.stripe_parities.Given as goal

abbrev pub invariant-loop-j : goal.invariant-loop-j
invariant-loop-j l = (file : List ℕ) → l.pieces ≡ chunks l.book.chunk file
    → rows_of l.all.items ≡ map (parities_of l.book file) (range_with_len 0 l.j)
