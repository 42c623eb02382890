use Rattle.std.proofs.Common.{ℕ, List, map, refl, subst, sym}
use Rattle.std.specs.String.{string_bytes}
use Rattle.std.proofs.KnownBytes.{Keeps-refl}
use Rattle.mf_top.specs.Answers.{seed_words}
use Rattle.mf_top.specs.Ends.{Call, Ends, unread}
use Rattle.mf_top.proofs.Ending.{answered, some_input}
use Rattle.mf_top.proofs.Summing.{no_task}
use Rattle.mf_top.proofs.end_of.Goals as goal

pub returns-in-Some : goal.returns-in-Some
returns-in-Some g c =
    let words = map string_bytes c.args.words.now in
    let left = g.S.Source.left c.args.source.now in
    let faults = g.S.Source.faults c.args.source.now in
    let call : List (List ℕ) → Call = λ w. record {
      words = w;
      left = left;
      left_now = left;
      faults = faults;
      faults_now = faults;
      output = record {
        written = g.K.Sink.written c.args.sink.now;
        written_now = g.K.Sink.written c.answer_seed.new.sink;
        faults = g.K.Sink.faults c.args.sink.now;
        faults_now = g.K.Sink.faults c.answer_seed.new.sink;
      };
    } in
    let input = some_input left in
    subst (λ w. Ends (call w) c.answer_seed.result) (sym c.in-Some.ensures)
    (answered (call (seed_words c.in-Some.n)) c.answer_seed.result (record {
      text = input.0;
      input = input.1;
      taken = unread (no_task c.in-Some.n) (Keeps-refl left);
      reads = refl;
      writes = c.answer_seed.ensures input.0;
    }))
