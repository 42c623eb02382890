-- The sums have the columns of the blocks so far.
use Rattle.std.proofs.Common.{◌≡◌, ◌≤◌, ◌-◌}
use Rattle.mf_kernel.specs.Dots.{combined}
use Rattle.mf_kernel.proofs.combining.three_sums.Given as goal

abbrev pub invariant-loop-start : goal.invariant-loop-start
invariant-loop-start l =
    (l.start ≤ l.fn.size)
    × (l.a.items ≡ combined l.start l.fn.chunks l.fn.first)
    × (l.b.items ≡ combined l.start l.fn.chunks l.fn.second)
    × (l.c.items ≡ combined l.start l.fn.chunks l.fn.third)

abbrev pub decreases-loop-start : goal.decreases-loop-start
decreases-loop-start l = l.fn.size - l.start
