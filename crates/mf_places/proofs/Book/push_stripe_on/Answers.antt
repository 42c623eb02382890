use Rattle.std.proofs.Common.{◌++◌, ◌∷◌, [], filter, ap, ◌∙◌, arith}
use Rattle.mf_places.specs.declared.Name.TheVariants as name
use Rattle.mf_places.specs.Placement.{is_on}
use Rattle.mf_places.proofs.OnServer.{row-more, stripe-on}
use Rattle.mf_places.proofs.Book.push_stripe_on.Goals as goal

pub loop-p-preserved : goal.loop-p-preserved
loop-p-preserved c =
    let p = is_on c.args.self.now c.args.server in
    c.in_ok-push_on.ensures.found ∙ ap (λ ys. ys ++ filter p (name.Parity c.args.width c.args.j c.loop-p.p ∷ []))
    c.loop-p.invariant
    ∙ row-more p (λ i. name.Parity c.args.width c.args.j i) c.args.found.now.items c.loop-p.p

pub returns : goal.returns
returns c = stripe-on c.args.self.now c.args.server c.args.width c.args.j c.loop-p.p c.args.found.now.items
    c.loop-p.found.items (omega (arith, c.loop-p-test.false, c.requires.parities)) c.loop-p.invariant
