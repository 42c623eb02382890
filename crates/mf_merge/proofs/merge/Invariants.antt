-- The merged parity has the columns of the blocks so far.
use Rattle.std.proofs.Common.{◌≡◌, ◌≤◌, ◌-◌}
use Rattle.mf_code.specs.Rows.{list_of}
use Rattle.mf_merge.specs.Merged.{merged_byte}
use Rattle.mf_merge.proofs.merge.Given as goal

abbrev pub invariant-loop-start : goal.invariant-loop-start
invariant-loop-start l =
    (l.start ≤ l.size) × (l.merged.items ≡ list_of l.start (merged_byte l.fn.point l.fn.width l.fn.parities))

abbrev pub decreases-loop-start : goal.decreases-loop-start
decreases-loop-start l = l.size - l.start
