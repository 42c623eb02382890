use Rattle.std.proofs.Common.{◌+◌, ◌/◌, ap, ◌∙◌, length, filter, arith}
use Rattle.std.proofs.lemmas.Nat.{mul-le}
use Rattle.mf_shape.specs.Chain.{Chain}
use Rattle.mf_shape.specs.Stages.{width_at}
use Rattle.mf_places.specs.Facts.{BookFacts}
use Rattle.mf_places.specs.Generations.{holds}
use Rattle.mf_places.specs.Names.{all_names}
use Rattle.mf_convert.proofs.Few.{names_few}
use Rattle.mf_convert.proofs.Merged.{factor_few}
use Rattle.mf_convert.proofs.converting.prepared.Goals as goal

pub overflow_mul-len : goal.overflow_mul-len
overflow_mul-len g c =
    let f = (g.A.Access.actor c.args.access.now).facts in
    let file = (g.met.A.Access.kept c.args.access.now).file in
    let t = c.args.g + 1 in
    let few = names_few f.book t file.layout in
    let same = ap length (c.in_ok-names.ensures.sublist
    ∙ ap (λ (b : BookFacts). filter (holds b t) (all_names b)) c.book.ensures) in
    let long = c.len-2.ensures in
    let wide = factor_few f c.args.g file c.requires.next in
    let is = c.factor-factor.ensures.value
    ∙ (ap (λ (s : Chain). width_at s.stages (c.args.g + 1) / width_at s.stages c.args.g)
    (c.shape.ensures.value ∙ ap (λ (b : BookFacts). b.shape) c.book-2.ensures)) in
    let most = mul-le c.len-2.result (c.factor-factor.result + 2) 30000 66 (omega arith) (omega arith) in
    omega arith
