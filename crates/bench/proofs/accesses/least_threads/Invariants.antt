-- The seats of the jobs are of the file.
use Rattle.std.proofs.Common.{All}
use Rattle.mf_shared.specs.Seats.{IsOf}
use Rattle.bench.specs.declared.accesses.Job.{Job}
use Rattle.bench.proofs.accesses.least_threads.Given as goal

abbrev pub invariant-loop : goal.invariant-loop
invariant-loop g l = All (λ (job : Job). IsOf job.seat l.shared) l.jobs.items
