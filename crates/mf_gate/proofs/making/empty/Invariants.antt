use Rattle.std.proofs.Common.{◌≡◌, length}
use Rattle.mf_gate.proofs.making.empty.Given as goal

abbrev pub invariant-loop-n : goal.invariant-loop-n
invariant-loop-n l = length l.names.items ≡ length l.fn.names.items
