use Rattle.tests_gate.specs.Frames.{Moves}
use Rattle.tests_gate.proofs.racing.run.Given as goal

abbrev pub invariant-loop-i : goal.invariant-loop-i
invariant-loop-i l = Moves 0 0 l.fn.pass l.pass l.race.site.gate
