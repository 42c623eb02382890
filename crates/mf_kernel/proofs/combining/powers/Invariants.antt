-- As many powers as iterations so far.
use Rattle.std.proofs.Common.{◌≡◌}
use Rattle.mf_kernel.specs.Dots.{powers_of}
use Rattle.mf_kernel.proofs.combining.powers.Given as goal

abbrev pub invariant-loop-t : goal.invariant-loop-t
invariant-loop-t l = l.row.items ≡ powers_of l.t l.fn.step l.fn.point
