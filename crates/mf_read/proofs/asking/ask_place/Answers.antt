use Rattle.std.proofs.Common.{◌+◌, ◌*◌, ◌<◌, ℕ, ap, sym, subst, arith}
use Rattle.mf_shape.specs.declared.Stage.{Stage}
use Rattle.mf_shape.specs.Stages.{width_at}
use Rattle.mf_places.specs.declared.Name.TheVariants as name
use Rattle.mf_places.specs.Names.{stripes_of}
use Rattle.mf_read.specs.Groups.{IsPlace}
use Rattle.mf_places.specs.Facts.{chunks_of}
use Rattle.mf_places.specs.Generations.{pieces_of}
use Rattle.mf_read.proofs.Readers.{may_ask}
use Rattle.mf_read.proofs.asking.ask_place.Goals as goal

pub ask-requires : goal.ask-requires
ask-requires g c =
    let a = g.A.Access.actor c.args.access.now in
    let width = ap (λ (s : Stage). s.width) c.stage-width.ensures in
    may_ask c.args.g c.args.j (name.Parity c.stage-width.result.width c.args.j c.in-Parity.p) a c.requires.reader
    (g.met.A.Access.kept c.args.access.now) (
      width,
      subst (λ (w : ℕ). c.args.j < stripes_of a.facts.book w) (sym width) c.requires.reader.stripe,
      subst (IsPlace a.facts.book c.args.g c.args.j) c.in-Parity.is c.requires.place,
    )

pub ask_chunk-requires-clause-chunk : goal.ask_chunk-requires-clause-chunk
ask_chunk-requires-clause-chunk g c =
    let a = g.A.Access.actor c.args.access.now in
    let width = ap (λ (s : Stage). s.width) c.stage-width.ensures in
    let h : c.in-Piece.t < pieces_of a.facts.book c.args.g c.args.j = subst
    (IsPlace a.facts.book c.args.g c.args.j) c.in-Piece.is c.requires.place in
    let w = width_at a.facts.book.shape.stages c.args.g in
    subst (λ (n : ℕ). c.args.j * n + c.in-Piece.t < chunks_of a.facts.book) (sym width)
    (let z : c.args.j * w + c.in-Piece.t < chunks_of a.facts.book = omega arith in z)
