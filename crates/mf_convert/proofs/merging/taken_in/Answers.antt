use Rattle.std.proofs.Common.{◌≡◌, ◌+◌, ◌*◌, subst, arith, rules}
use Rattle.mf_shape.specs.Chain.{Chain}
use Rattle.mf_shape.specs.Stages.{width_at}
use Rattle.mf_places.specs.Facts.{chunks_of}
use Rattle.mf_convert.proofs.Rows.{takes_one, factor_some}
use Rattle.mf_convert.proofs.merging.taken_in.Goals as goal

pub returns : goal.returns
returns c =
    let chain = c.shape.ensures.kept.shape.chain in
    let low = c.requires.next in
    let narrow = width_at c.args.book.now.shape.stages c.args.g in
    let wide = width_at c.args.book.now.shape.stages (c.args.g + 1) in
    let whole = subst (λ (s : Chain). c.factor-factor.result * width_at s.stages c.args.g
    ≡ width_at s.stages (c.args.g + 1))
    c.shape.ensures.value c.factor-factor.ensures.whole in
    let some = (chain.widths (c.args.g + 1) low).0 in
    let one = takes_one (chunks_of c.args.book.now) narrow wide c.factor-factor.result c.args.j whole
    (chain.widths c.args.g (omega arith)).0 some c.requires.stripe in
    let more = factor_some narrow wide c.factor-factor.result whole some in
    let least = c.min.ensures in
    let there = c.stripes.ensures in
    record { stripes = search rules; some = omega arith; most = search rules; there = search rules }
