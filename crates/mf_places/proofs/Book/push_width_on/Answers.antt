use Rattle.std.proofs.Common.{sym, ◌≡◌, ◌++◌, filter, ap, subst, ◌∙◌, arith}
use Rattle.std.specs.Int.{div_ceil}
use Rattle.mf_places.specs.Facts.{BookFacts, IsBook, chunks_of}
use Rattle.mf_places.specs.Names.{stripe_parities}
use Rattle.mf_places.specs.Placement.{is_on}
use Rattle.mf_places.proofs.Counts.{width-some}
use Rattle.mf_places.proofs.OnServer.{rows-more, width-off, width-on}
use Rattle.mf_places.proofs.Book.push_width_on.Goals as goal

pub returns-then-not-some : goal.returns-then-not-some
returns-then-not-some c = width-off c.args.self.now c.args.server c.args.width c.args.found.now.items
    (rw (sym c.parities-parities.ensures.value) (c.has_parity_on-some.ensures.none c.if-not-some.true))

pub div_ceil-stripes-requires : goal.div_ceil-stripes-requires
div_ceil-stripes-requires c =
    let book = subst (λ (v : BookFacts). IsBook v) c.self.view_is c.self.invariant.book in
    let few = c.has_parity_on-some.ensures.some c.if-not-some.false in
    let some = width-some book.shape.chain c.args.width (omega (arith, c.parities-parities.ensures.value, few)) in
    omega (arith, some)

pub loop-j-preserved : goal.loop-j-preserved
loop-j-preserved c =
    let b = c.args.self.now in
    let p = is_on b c.args.server in
    c.in_ok-push_stripe_on.ensures ∙ ap (λ ys. ys ++ filter p (stripe_parities b c.args.width c.loop-j.j))
    c.loop-j.invariant
    ∙ rows-more p (stripe_parities b c.args.width) c.args.found.now.items c.loop-j.j

pub returns : goal.returns
returns c =
    let b = c.args.self.now in
    let chunks : c.self.inside.chunks ≡ chunks_of b = c.self.invariant.chunks ∙ ap chunks_of c.self.view_is in
    let stripes = ap (λ m. div_ceil m c.args.width) chunks in
    width-on b c.args.server c.args.width c.loop-j.j c.args.found.now.items c.loop-j.found.items
    (omega (arith, c.loop-j-test.false, stripes)) c.loop-j.invariant
