use Rattle.tests_life.specs.Mendings.{IsFileOf}
use Rattle.tests_life.proofs.mendings.lose_all.Given as goal

abbrev pub invariant-loop-server : goal.invariant-loop-server
invariant-loop-server l = IsFileOf l.fn.plain.book l.fn.plain.bytes l.losses l.plain
