-- The seat is of the file.
use Rattle.mf_shared.specs.Seats.{IsOf}
use Rattle.bench.proofs.accesses.least_shared.Given as goal

abbrev pub invariant-loop : goal.invariant-loop
invariant-loop g l = IsOf l.job.seat l.shared
