use Rattle.std.proofs.Common.{◌≡◌, take}
use Rattle.mf_vault.specs.Counting.{io_of}
use Rattle.mf_vault.proofs.io.count_io.Given as goal

abbrev pub invariant-loop-entry : goal.invariant-loop-entry
invariant-loop-entry l = l.io ≡ io_of (take l.entry-index l.entries)
