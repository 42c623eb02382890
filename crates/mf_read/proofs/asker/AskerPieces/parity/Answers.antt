use Rattle.std.proofs.Common.{refl, ap, arith}
use Rattle.mf_decode.specs.declared.pieces.Place.TheVariants as place
use Rattle.mf_vault.specs.Facts.{Facts}
use Rattle.mf_shape.specs.Stages.{parities_at}
use Rattle.mf_read.specs.Stripes.{stripe_at}
use Rattle.mf_read.proofs.Sinces.{reader_on, since_on, answers_on, facts_at, parity_at}
use Rattle.std.proofs.lemmas.List.{length-take as length-take-of}
use Rattle.mf_read.proofs.asker.AskerPieces.parity.Goals as goal

pub ask_at-requires-clause-reader : goal.ask_at-requires-clause-reader
ask_at-requires-clause-reader g c =
    let self = c.args.self.now in
    reader_on self.g self.j g.K.Begun.start (g.A.Access.actor self.access.now) self.stopped self.reader self.since
    c.requires.unbroken

pub invariant_of-self : goal.invariant_of-self
invariant_of-self g c =
    let self = c.args.self.now in
    record {
      reader = self.reader;
      since = since_on self.g self.j g.K.Begun.start (g.A.Access.actor self.access.now)
          (g.A.Access.actor c.ask_at.new.access) (place.Parity c.args.p) c.ask_at.result
          self.stopped c.ask_at.new.stopped self.since c.requires.unbroken c.ask_at.ensures;
    }

pub returns-clause-chunk : goal.returns-clause-chunk
returns-clause-chunk g c =
    let self = c.args.self.now in
    let old = g.A.Access.actor self.access.now in
    let now = g.A.Access.actor c.ask_at.new.access in
    parity_at self.g self.j c.args.p c.ask_at.result c.ask_at.new.stopped old now (let low = c.requires.exists in
    let most = length-take-of (parities_at old.facts.book.shape.stages self.g) old.facts.book.points in
    omega arith) c.ask_at.ensures

pub returns-clause-answers : goal.returns-clause-answers
returns-clause-answers g c =
    let self = c.args.self.now in
    answers_on self.g self.j g.K.Begun.start (g.A.Access.actor self.access.now)
    (g.A.Access.actor c.ask_at.new.access) (place.Parity c.args.p) c.ask_at.result
    self.stopped c.ask_at.new.stopped self.since c.requires.unbroken c.ask_at.ensures

pub returns-clause-stays : goal.returns-clause-stays
returns-clause-stays g c =
    let self = c.args.self.now in
    let same = facts_at self.g self.j g.K.Begun.start (g.A.Access.actor self.access.now)
    (g.A.Access.actor c.ask_at.new.access) (place.Parity c.args.p) c.ask_at.result
    c.ask_at.new.stopped c.ask_at.ensures in
    (ap (λ (f : Facts). stripe_at f self.g self.j) same, refl)
