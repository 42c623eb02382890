use Rattle.std.proofs.Common.{map, refl, subst, sym}
use Rattle.std.specs.String.{string_bytes}
use Rattle.std.proofs.KnownBytes.{Keeps-refl}
use Rattle.mf_top.specs.Answers.{IsAnswer, no_words}
use Rattle.mf_top.specs.Ends.{Call, unread}
use Rattle.mf_top.specs.declared.Status.TheVariants.{Words}
use Rattle.mf_top.proofs.Ending.{answered, some_input, written}
use Rattle.mf_top.proofs.end_of_words.Goals as goal

pub returns-in-None : goal.returns-in-None
returns-in-None g c =
    let words = map string_bytes c.args.words.now in
    let left = g.S.Source.left c.args.source.now in
    let now = left in
    let call : Call = record {
      words = words;
      left = left;
      left_now = now;
      faults = g.S.Source.faults c.args.source.now;
      faults_now = g.S.Source.faults c.args.source.now;
      output = record {
        written = g.K.Sink.written c.args.sink.now;
        written_now = g.K.Sink.written c.write_answer.new.sink;
        faults = g.K.Sink.faults c.args.sink.now;
        faults_now = g.K.Sink.faults c.write_answer.new.sink;
      };
    } in
    let input = some_input left in
    let answer = subst (IsAnswer words input.0 2) (sym c.words_line.ensures) (no_words (c.in-None.ensures, c.requires))
    in
    answered call c.write_answer.result (record {
      text = input.0;
      input = input.1;
      taken = unread c.in-None.ensures (Keeps-refl left);
      reads = refl;
      writes = written call.output words input.0 c.words_line.result.now Words c.write_answer.result 2 answer (λ w. w)
          c.write_answer.ensures;
    })
