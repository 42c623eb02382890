use Rattle.std.proofs.Common.{◌≡◌, ℕ, List, length, map, take}
use Rattle.mf_code.specs.Stripes.{stripe}
use Rattle.mf_shape.specs.Stages.{width_at}
use Rattle.mf_vault.specs.Facts.{cell}
use Rattle.mf_repair.proofs.cells.cells_of.Given as goal

abbrev pub invariant-loop-name : goal.invariant-loop-name
invariant-loop-name l = (file : List ℕ) → length file ≡ l.book.bytes
    → l.chunks ≡ stripe l.book.chunk file (width_at l.book.shape.stages l.g) l.j
    → l.cells.items ≡ map (cell l.book file) (take l.name-index l.names)
