use Rattle.std.proofs.Common.{length, arith, rules}
use Rattle.bench.proofs.Seated.{all_done}
use Rattle.bench.proofs.accesses.least_threads.Goals as goal

pub loop-preserved : goal.loop-preserved
loop-preserved g c =
    all_done c.in_ok-shared.field-0.shared (length c.loop.jobs.items) c.in_ok-jobs.jobs.items (search rules)
    c.in_ok-jobs.ensures.each
