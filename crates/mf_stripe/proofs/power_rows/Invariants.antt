-- The rows of the points so far.
use Rattle.std.proofs.Common.{◌≡◌, map, take}
use Rattle.mf_kernel.specs.Dots.{rows, powers_of}
use Rattle.mf_stripe.proofs.power_rows.Given as goal

abbrev pub invariant-loop-point : goal.invariant-loop-point
invariant-loop-point l = rows l.lists.items ≡ map (powers_of l.fn.count 1) (take l.point-index l.fn.points)
