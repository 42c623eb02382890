use Rattle.std.proofs.Common.{◌≡◌, ◌≤◌, take}
use Rattle.mf_repair.specs.Mending.{restore_entries}
use Rattle.mf_repair.proofs.counting.count_restores.Given as goal

abbrev pub invariant-loop-entry : goal.invariant-loop-entry
invariant-loop-entry l = record {
  value : l.restored ≡ restore_entries (take l.entry-index l.entries);
  few : l.restored ≤ l.entry-index;
}
