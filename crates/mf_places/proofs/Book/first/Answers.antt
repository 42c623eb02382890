use Rattle.std.proofs.Common.{◌≡◌, ap, arith}
use Rattle.std.proofs.lemmas.List.{get_or_read}
use Rattle.mf_shape.specs.Stages.{max_width}
use Rattle.mf_places.specs.Facts.{BookFacts}
use Rattle.mf_places.proofs.Counts.{first_in-le}
use Rattle.mf_places.proofs.Book.first.Goals as goal

pub returns-clause-bound : goal.returns-clause-bound
returns-clause-bound c =
    let inside = c.self.inside in
    let kept = c.self.invariant in
    let same : max_width inside.shape.stages ≡ max_width c.args.self.now.shape.stages =
    ap (λ (v : BookFacts). max_width v.shape.stages) c.self.view_is in
    let at = kept.firsts.first c.args.width (omega (arith, kept.widest, c.requires)) in
    let small = first_in-le kept.book.shape.chain inside.chunks c.args.width kept.short (omega (
      arith,
      kept.widest,
      kept.wide,
      c.requires,
    )) in
    let read = get_or_read inside.firsts.items c.args.width c.index.result.now (omega (
      arith,
      kept.firsts.count,
      kept.widest,
      c.requires,
    )) c.index.ensures 0 in
    omega arith
