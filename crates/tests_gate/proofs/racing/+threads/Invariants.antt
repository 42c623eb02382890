use Rattle.std.proofs.Common.{◌+◌, ◌*◌}
use Rattle.tests_gate.proofs.racing.+threads.Given as goal

abbrev pub decreases-front : goal.decreases-front
decreases-front g l = 2 * l.half + 1

abbrev pub decreases-back : goal.decreases-back
decreases-back g l = 2 * l.half + 1

abbrev pub decreases-run_all : goal.decreases-run_all
decreases-run_all g l = 2 * l.threads
