use Rattle.std.proofs.Common.{◌≡◌, ◌++◌}
use Rattle.mf_crew.proofs.live.append.Given as goal

abbrev pub invariant-loop-done : goal.invariant-loop-done
invariant-loop-done l = l.all.items ≡ l.initial.all.items ++ l.yielded
