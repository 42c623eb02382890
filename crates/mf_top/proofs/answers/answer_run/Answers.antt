use Rattle.mf_top.specs.Writes.{Output}
use Rattle.mf_top.proofs.Ending.{ran, ran_front}
use Rattle.mf_top.proofs.answers.answer_run.Goals as goal

pub returns-in-Ok-report : goal.returns-in-Ok-report
returns-in-Ok-report g c =
    let out : Output = record {
      written = g.K.Sink.written c.args.sink.now;
      written_now = g.K.Sink.written c.report.new.sink;
      faults = g.K.Sink.faults c.args.sink.now;
      faults_now = g.K.Sink.faults c.report.new.sink;
    } in
    λ text is.
    ran c.args.json out text c.args.script.now c.in-Ok.ran.done.items c.deref.result.now c.deref-in-Ok-report.result.now
    c.in-Ok.ran.files.items c.deref-2.result.now c.status_of.result
    (record { script = is; run = c.in-Ok.ensures.plain; left = c.in-Ok.ensures.left }) c.deref.ensures.value
    c.deref-2.ensures.value
    c.deref-in-Ok-report.ensures.value
    c.in-Ok-report.ensures.text c.in-Ok-report.ensures.count c.status_of.ensures

pub returns-in-Err-Sink : goal.returns-in-Err-Sink
returns-in-Err-Sink g c =
    let out : Output = record {
      written = g.K.Sink.written c.args.sink.now;
      written_now = g.K.Sink.written c.report.new.sink;
      faults = g.K.Sink.faults c.args.sink.now;
      faults_now = g.K.Sink.faults c.report.new.sink;
    } in
    λ text is.
    ran_front c.args.json out text c.args.script.now c.in-Ok.ran.done.items c.deref.result.now c.in-Ok.ran.files.items
    c.deref-2.result.now (record { script = is; run = c.in-Ok.ensures.plain; left = c.in-Ok.ensures.left })
    c.deref.ensures.value
    c.deref-2.ensures.value
    (rw c.in-Err-Sink.field-0-is at c.in-Err-Sink.ensures.fault)
