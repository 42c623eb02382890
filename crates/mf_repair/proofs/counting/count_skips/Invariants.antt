use Rattle.std.proofs.Common.{◌≡◌, ◌≤◌, take}
use Rattle.mf_repair.specs.Mending.{skip_entries}
use Rattle.mf_repair.proofs.counting.count_skips.Given as goal

abbrev pub invariant-loop-entry : goal.invariant-loop-entry
invariant-loop-entry l = record {
  value : l.skipped ≡ skip_entries (take l.entry-index l.entries);
  few : l.skipped ≤ l.entry-index;
}
