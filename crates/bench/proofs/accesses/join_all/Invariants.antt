-- The seat is of the file, and so are those of the jobs that are left.
use Rattle.std.proofs.Common.{All}
use Rattle.mf_shared.specs.Seats.{IsOf}
use Rattle.bench.specs.declared.accesses.Job.{Job}
use Rattle.bench.proofs.accesses.join_all.Given as goal

abbrev pub invariant-loop-job : goal.invariant-loop-job
invariant-loop-job l = record {
  of : IsOf l.seat l.shared;
  rest : All (λ (job : Job). IsOf job.seat l.shared) l.job-iterator.rest.items;
}
