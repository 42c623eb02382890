use Rattle.std.proofs.Common.{◌≡◌, ◌+◌, ◌-◌, ◌*◌, ◌<◌, ap, sym, ◌∙◌, arith}
use Rattle.mf_shape.specs.declared.Stage.{Stage}
use Rattle.mf_shape.specs.Stages.{width_at, parities_at, copies_at}
use Rattle.mf_places.specs.Names.{stripes_of}
use Rattle.mf_places.specs.Generations.{holds_in, pieces_of, stripe_names}
use Rattle.mf_places.proofs.Stripes.{stripe_names-is, stripe_names-past, stripe_names-made, copies-more}
use Rattle.mf_places.proofs.Names.{All-sublist}
use Rattle.mf_places.proofs.Book.names_of.Goals as goal

pub returns-then-stripes-stripe-clause-sublist : goal.returns-then-stripes-stripe-clause-sublist
returns-then-stripes-stripe-clause-sublist c =
    let b = c.args.self.now in
    c.new-found.ensures.items
    ∙ sym (stripe_names-past b c.stage-stage.ensures.kept c.args.g c.args.stripe c.requires (omega (
      arith,
      c.stripes.ensures,
      c.if-stripes-stripe.true,
    )))

pub returns-then-stripes-stripe-clause-had : goal.returns-then-stripes-stripe-clause-had
returns-then-stripes-stripe-clause-had c =
    All-sublist c.args.self.now (holds_in c.args.self.now c.args.g c.args.stripe) c.new-found.result.items
    (returns-then-stripes-stripe-clause-sublist c)

pub loop-c-preserved : goal.loop-c-preserved
loop-c-preserved c =
    let b = c.args.self.now in
    let width : c.stage-stage.result.width ≡ width_at b.shape.stages c.args.g =
    ap (λ (s : Stage). s.width) c.stage-stage.ensures.value in
    let from = c.args.stripe * c.stage-stage.result.width in
    let starts : from ≡ c.args.stripe * width_at b.shape.stages c.args.g = ap (λ i. c.args.stripe * i) width in
    let count : from + c.pieces.result - from ≡ pieces_of b c.args.g c.args.stripe =
    omega (arith, c.pieces.ensures.value) in
    copies-more b c.args.g c.args.stripe c.loop-c.c from (from + c.pieces.result - from) c.loop-c.found.items
    c.push_copies.new.found.items starts count c.loop-c.invariant c.in_ok-push_copies.ensures

pub returns-clause-parts : goal.returns-clause-parts
returns-clause-parts c =
    let b = c.args.self.now in
    let width : c.stage-stage.result.width ≡ width_at b.shape.stages c.args.g =
    ap (λ (s : Stage). s.width) c.stage-stage.ensures.value in
    let parities : c.stage-stage.result.parities ≡ parities_at b.shape.stages c.args.g =
    ap (λ (s : Stage). s.parities) c.stage-stage.ensures.value in
    let copies : c.stage-stage.result.copies ≡ copies_at b.shape.stages c.args.g =
    ap (λ (s : Stage). s.copies) c.stage-stage.ensures.value in
    let all : c.loop-c.c ≡ copies_at b.shape.stages c.args.g = omega (arith, c.loop-c-test.false) in
    λ below. stripe_names-made b c.args.g c.args.stripe c.loop-c.c c.stage-stage.result.width
    c.stage-stage.result.parities c.loop-c.found.items c.push_parities.new.found.items all width parities
    c.loop-c.invariant c.in_ok-push_parities.ensures

pub returns-clause-sublist : goal.returns-clause-sublist
returns-clause-sublist c =
    let b = c.args.self.now in
    let below : c.args.stripe < stripes_of b (width_at b.shape.stages c.args.g) =
    omega (arith, c.stripes.ensures, c.if-stripes-stripe.false) in
    let made : c.push_parities.new.found.items ≡ stripe_names b c.args.g c.args.stripe = returns-clause-parts c below in
    made ∙ sym (stripe_names-is b c.stage-stage.ensures.kept c.args.g c.args.stripe c.requires below)

pub returns-clause-had : goal.returns-clause-had
returns-clause-had c =
    All-sublist c.args.self.now (holds_in c.args.self.now c.args.g c.args.stripe) c.push_parities.new.found.items
    (returns-clause-sublist c)
