use Rattle.std.proofs.Common.{ℕ, List, refl, subst, sym, inr, arith}
use Rattle.std.proofs.KnownBytes.{Keeps-refl}
use Rattle.mf_top.specs.Answers.{task_words, IsAnswer}
use Rattle.mf_top.specs.Ends.{Call, whole, too_long}
use Rattle.mf_top.specs.Writes.{Writes}
use Rattle.mf_top.specs.declared.Status.TheVariants.{Refused}
use Rattle.mf_top.specs.declared.Task.TheVariants.{Run}
use Rattle.mf_top.proofs.Ending.{answered, long_input, long_refused, whole_input, written}
use Rattle.mf_top.proofs.end_of_run.Goals as goal

pub returns-in-Err-TooLong : goal.returns-in-Err-TooLong
returns-in-Err-TooLong g c =
    let left = g.S.Source.left c.args.source.now in
    let now = g.S.Source.left c.read_all.new.source in
    let call : Call = record {
      words = task_words (Run c.args.json);
      left = left;
      left_now = now;
      faults = g.S.Source.faults c.args.source.now;
      faults_now = g.S.Source.faults c.read_all.new.source;
      output = record {
        written = g.K.Sink.written c.args.sink.now;
        written_now = g.K.Sink.written c.write_answer.new.sink;
        faults = g.K.Sink.faults c.args.sink.now;
        faults_now = g.K.Sink.faults c.write_answer.new.sink;
      };
    } in
    let refused = rw c.in-Err-TooLong.field-0-is at c.in-Err-TooLong.ensures.refused in
    let long = long_input left now 1048576 refused.1.0 refused.1.1 refused.1.2 in
    let answer = subst (IsAnswer (task_words (Run c.args.json)) long.0 1) (sym c.too_long_line.ensures)
    (long_refused (Run c.args.json) long.0 long.2) in
    answered call c.write_answer.result (record {
      text = long.0;
      input = long.1;
      taken = too_long (Run c.args.json, refl) long.2 refused.1;
      reads = refused.0;
      writes = written call.output (task_words (Run c.args.json)) long.0 c.too_long_line.result.now Refused
          c.write_answer.result 1
          answer (λ w. w) c.write_answer.ensures;
    })

pub returns-in-Ok : goal.returns-in-Ok
returns-in-Ok g c =
    let left = g.S.Source.left c.args.source.now in
    let now = g.S.Source.left c.read_all.new.source in
    let call : Call = record {
      words = task_words (Run c.args.json);
      left = left;
      left_now = now;
      faults = g.S.Source.faults c.args.source.now;
      faults_now = g.S.Source.faults c.read_all.new.source;
      output = record {
        written = g.K.Sink.written c.args.sink.now;
        written_now = g.K.Sink.written c.answer_to_run.new.sink;
        faults = g.K.Sink.faults c.args.sink.now;
        faults_now = g.K.Sink.faults c.answer_to_run.new.sink;
      };
    } in
    answered call c.answer_to_run.result (record {
      text = c.in-Ok.text.items;
      input = whole_input left now c.in-Ok.text.items c.in-Ok.ensures.bytes c.in-Ok.ensures.end;
      taken = whole (Run c.args.json, refl) (omega (arith, c.in-Ok.ensures.within, c.in-Ok.text.ok.0))
          c.in-Ok.ensures.end;
      reads = c.in-Ok.ensures.count;
      writes = subst (λ (t : List ℕ). Writes call.output (task_words (Run c.args.json)) t c.answer_to_run.result)
          c.deref.ensures.value c.answer_to_run.ensures;
    })

pub returns-in-Err-Fault : goal.returns-in-Err-Fault
returns-in-Err-Fault g c =
    let refused = rw c.in-Err-Fault.field-0-is at c.in-Err-Fault.ensures.refused in (
      record {
        words = (Run c.args.json, refl);
        taken = refused.1;
        writes = record { written = Keeps-refl (g.K.Sink.written c.args.sink.now); held = refl };
      },
      refused.0,
    )

pub returns-in-Err-Memory : goal.returns-in-Err-Memory
returns-in-Err-Memory g c =
    let refused = rw c.in-Err-Memory.field-0-is at c.in-Err-Memory.ensures.refused in
    inr (
      record {
        words = (Run c.args.json, refl);
        taken = refused.1;
        writes = record { written = Keeps-refl (g.K.Sink.written c.args.sink.now); held = refl };
      },
      refused.0,
    )
