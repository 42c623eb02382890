-- The sums so far.
use Rattle.std.proofs.Common.{◌≡◌, ◌≤◌, ◌-◌, length, map, take}
use Rattle.mf_kernel.specs.Dots.{rows, combined}
use Rattle.mf_kernel.proofs.combining.combine_all.Given as goal

abbrev pub invariant-loop-done : goal.invariant-loop-done
invariant-loop-done l =
    (l.done ≤ length l.fn.rows)
    × (rows l.lists.items ≡ map (combined l.fn.size l.fn.chunks) (take l.done (rows l.fn.rows)))

abbrev pub decreases-loop-done : goal.decreases-loop-done
decreases-loop-done l = length l.fn.rows - l.done
