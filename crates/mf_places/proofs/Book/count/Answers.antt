use Rattle.std.proofs.Common.{◌≡◌, ◌+◌, ap, sym, ◌∙◌, arith}
use Rattle.mf_shape.specs.Stages.{max_width}
use Rattle.mf_places.specs.Facts.{BookFacts, chunks_of}
use Rattle.mf_places.specs.Numbers.{first_in}
use Rattle.mf_places.proofs.Names.{count_of-is}
use Rattle.mf_places.proofs.Book.count.Goals as goal

pub returns-clause-value : goal.returns-clause-value
returns-clause-value c =
    let b = c.args.self.now in
    let same : max_width c.self.inside.shape.stages ≡ max_width b.shape.stages =
    ap (λ (v : BookFacts). max_width v.shape.stages) c.self.view_is in
    let last : c.self.inside.widest + 1 ≡ max_width b.shape.stages + 1 = omega (arith, c.self.invariant.widest) in
    c.first.ensures.value ∙ ap (first_in (chunks_of b) b.shape.stages) last ∙ sym (count_of-is b)
