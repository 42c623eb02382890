use Rattle.std.proofs.Common.{length, refl, sym, ap, subst, ◌∙◌}
use Rattle.mf_journal.specs.Frames.{IsJournal, front}
use Rattle.mf_journal.specs.Opening.{HasFault}
use Rattle.mf_journal.proofs.Openings.{answers_exactly, opens_as_stands, opens_faultless}
use Rattle.mf_journal.proofs.Openings.{stands_never}
use Rattle.mf_journal.proofs.journal.Journal.open.Goals as goal

pub returns-in-Ok-parse-clause-keeps : goal.returns-in-Ok-parse-clause-keeps
returns-in-Ok-parse-clause-keeps g c = λ ps stands.
    let read = c.deref.ensures.value ∙ c.in-Ok.ensures.bytes in
    let opens = c.in-Ok-parse.ensures.opens in
    let same = opens_as_stands _ ps _ _ (subst (λ l. IsJournal l ps) (sym read) stands) opens in (
      same,
      record {
        whole = refl;
        rest = record {
          stands = subst (λ l. IsJournal l ps) (sym c.read_all.ensures.reads) stands;
          at = opens.at ∙ ap (λ qs. length (front qs)) same;
          lasting = c.in-Ok.ensures.lasting;
        };
      },
    )

pub returns-in-Ok-parse-clause-faultless : goal.returns-in-Ok-parse-clause-faultless
returns-in-Ok-parse-clause-faultless g c = λ fault has.
    let read = c.deref.ensures.value ∙ c.in-Ok.ensures.bytes in
    opens_faultless _ _ _ c.in-Ok-parse.ensures.opens fault (subst (HasFault fault) (sym read) has)

pub returns-clause-never : goal.returns-clause-never
returns-clause-never g c = λ ps stands.
    let read = c.deref.ensures.value ∙ c.in-Ok.ensures.bytes in
    stands_never _ ps _ (subst (λ l. IsJournal l ps) (sym read) stands)
    c.in-Err-parse.ensures.refuses

pub returns-clause-exactly : goal.returns-clause-exactly
returns-clause-exactly g c = λ fault has.
    let read = c.deref.ensures.value ∙ c.in-Ok.ensures.bytes in
    answers_exactly _ _ c.in-Err-parse.ensures.refuses fault (subst (HasFault fault) (sym read) has)
