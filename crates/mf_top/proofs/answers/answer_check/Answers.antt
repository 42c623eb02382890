use Rattle.std.proofs.Common.{◌∙◌}
use Rattle.mf_top.specs.Answers.{task_words}
use Rattle.mf_top.specs.Writes.{Output}
use Rattle.mf_top.specs.declared.Status.TheVariants.{Done}
use Rattle.mf_top.specs.declared.Task.TheVariants.{Check}
use Rattle.mf_top.proofs.Ending.{accepted_read, written}
use Rattle.mf_top.proofs.answers.answer_check.Goals as goal

pub returns-in-Ok : goal.returns-in-Ok
returns-in-Ok g c =
    let out : Output = record {
      written = g.K.Sink.written c.args.sink.now;
      written_now = g.K.Sink.written c.write_answer.new.sink;
      faults = g.K.Sink.faults c.args.sink.now;
      faults_now = g.K.Sink.faults c.write_answer.new.sink;
    } in
    let lines = c.deref.ensures.value ∙ c.in-Ok.ensures in
    λ text is.
    written out (task_words Check) text c.deref.result.now Done c.write_answer.result 0
    (accepted_read text c.deref.result.now c.args.script.now is lines) (λ w. w) c.write_answer.ensures
