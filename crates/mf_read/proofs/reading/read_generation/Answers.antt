use Rattle.std.proofs.Common.{ap, sym, ◌∙◌, refl}
use Rattle.mf_places.specs.Facts.{BookFacts, chunks_of}
use Rattle.mf_vault.specs.Facts.{Facts}
use Rattle.mf_vault.proofs.Doing.{facts_stay}
use Rattle.mf_read.specs.Asking.{gets}
use Rattle.mf_read.proofs.Stripewise.{all_here, ended_of}
use Rattle.mf_read.proofs.reading.read_generation.Goals as goal

pub returns-in-Ok-clause-reads : goal.returns-in-Ok-clause-reads
returns-in-Ok-clause-reads g c =
    let a = g.A.Access.actor c.args.access.now in
    let (asks, served, does) = c.in-Ok.ensures.reads in
    let kept = g.met.A.Access.kept c.args.access.now in
    let from = c.chunks.ensures.value ∙ ap chunks_of c.book-in-Ok.ensures
    ∙ ap (λ (f : Facts). chunks_of f.book) (facts_stay does) in (
      gets a.facts asks,
      (λ v bytes. (
        asks,
        refl,
        served,
        refl,
        bytes,
        from
            ∙ all_here a.facts c.args.g asks kept.file c.requires.pinned.stage served,
      )),
      does,
    )

pub returns-in-Ok-clause-hands : goal.returns-in-Ok-clause-hands
returns-in-Ok-clause-hands g c =
    let a = g.A.Access.actor c.args.access.now in
    let (asks, served, does) = c.in-Ok.ensures.reads in
    let kept = g.met.A.Access.kept c.args.access.now in
    let long = c.length.ensures.value ∙ ap (λ (b : BookFacts). b.bytes) c.book.ensures
    ∙ ap (λ (f : Facts). f.book.bytes) (facts_stay does) ∙ sym kept.file.long in
    (a.facts.bytes, c.in-Ok.ensures.hands, (refl, long))

pub returns-in-Err-clause-reads : goal.returns-in-Err-clause-reads
returns-in-Err-clause-reads g c = ended_of c.args.g c.in-Err.outcome c.in-Err.ensures.reads
