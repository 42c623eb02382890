-- The coefficients so far have their tables.
use Rattle.std.proofs.Common.{◌≡◌, ℕ, ◌<◌, length}
use Rattle.mf_kernel.proofs.RowTables.{HasEntries}
use Rattle.mf_kernel.proofs.row.fill_tables.Given as goal

abbrev pub invariant-loop-t : goal.invariant-loop-t
invariant-loop-t l =
    (length l.tables ≡ length l.fn.tables)
    × ((u n : ℕ) → u < l.t → n < 16 → HasEntries l.fn.row l.tables u n)
