use Rattle.std.proofs.Common.{◌≡◌, map, take}
use Rattle.mf_vault.specs.Facts.{cell}
use Rattle.mf_convert.proofs.cells.cells_of.Given as goal

abbrev pub invariant-loop-name : goal.invariant-loop-name
invariant-loop-name l = l.cells.items ≡ map (cell l.book l.bytes) (take l.name-index l.names)
