use Rattle.mf_top.specs.Writes.{Output}
use Rattle.mf_top.proofs.Summing.{summed_up}
use Rattle.mf_top.proofs.seeds.write_sum.Goals as goal

pub returns-in-Ok : goal.returns-in-Ok
returns-in-Ok g c =
    let out : Output = record {
      written = g.K.Sink.written c.args.sink.now;
      written_now = g.K.Sink.written c.write_answer.new.sink;
      faults = g.K.Sink.faults c.args.sink.now;
      faults_now = g.K.Sink.faults c.write_answer.new.sink;
    } in
    λ text run.
    summed_up c.args.n out text c.args.script.now c.args.done.now c.args.files.now c.in-Ok.line.items c.deref.result.now
    c.status_of.result c.write_answer.result c.ranges.n.fits run c.deref.ensures.value c.in-Ok.ensures
    c.status_of.ensures c.write_answer.ensures
