use Rattle.bench.proofs.Seated.{all_left}
use Rattle.bench.proofs.accesses.join_all.Goals as goal

pub loop-job-preserved : goal.loop-job-preserved
loop-job-preserved c = record {
  of = c.join.ensures.of;
  rest = all_left c.args.shared.now c.in-Some.job c.loop-job.job-iterator.rest.items c.next.new.self.rest.items
      c.in-Some.ensures.steps.0 c.loop-job.invariant.rest;
}
