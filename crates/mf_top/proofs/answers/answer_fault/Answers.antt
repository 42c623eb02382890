use Rattle.std.proofs.Common.{◌≢◌, false, IsTrue, ◌∙◌}
use Rattle.mf_lines.specs.declared.parts.Kind.TheVariants as kind
use Rattle.mf_top.specs.Answers.{task_words}
use Rattle.mf_top.specs.Writes.{Output}
use Rattle.mf_top.specs.declared.Status.TheVariants.{Refused}
use Rattle.mf_top.proofs.Ending.{refused_read, written}
use Rattle.mf_top.proofs.answers.answer_fault.Goals as goal

pub returns-in-Ok : goal.returns-in-Ok
returns-in-Ok g c =
    let out : Output = record {
      written = g.K.Sink.written c.args.sink.now;
      written_now = g.K.Sink.written c.write_answer.new.sink;
      faults = g.K.Sink.faults c.args.sink.now;
      faults_now = g.K.Sink.faults c.write_answer.new.sink;
    } in
    let other : c.args.fault.now.kind ≢ kind.Memory = λ e. let told : IsTrue false = c.if-is_memory.ensures.1 e in cc in
    λ task text has.
    written out (task_words task) text c.deref.result.now Refused c.write_answer.result 1
    (refused_read task text c.deref.result.now c.args.fault.now has other (c.deref.ensures.value
    ∙ c.in-Ok.ensures)) (λ w. w)
    c.write_answer.ensures
