-- The sum has the columns of the blocks so far.
use Rattle.std.proofs.Common.{◌≡◌, ◌≤◌, ◌-◌}
use Rattle.mf_kernel.specs.Dots.{combined}
use Rattle.mf_kernel.proofs.combining.one_sum.Given as goal

abbrev pub invariant-loop-start : goal.invariant-loop-start
invariant-loop-start l =
    (l.start ≤ l.fn.size)
    × (l.sum.items ≡ combined l.start l.fn.chunks l.fn.row)

abbrev pub decreases-loop-start : goal.decreases-loop-start
decreases-loop-start l = l.fn.size - l.start
