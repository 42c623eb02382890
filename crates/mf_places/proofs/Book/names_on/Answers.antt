use Rattle.std.proofs.Common.{◌≡◌, ◌++◌, filter, ap, ◌∙◌, arith, subst}
use Rattle.mf_shape.specs.declared.Stage.{Stage}
use Rattle.mf_shape.specs.Stages.{max_width}
use Rattle.mf_places.specs.Facts.{BookFacts, IsBook}
use Rattle.mf_places.specs.Names.{data_names, copies_named, copy_names, width_parities}
use Rattle.mf_places.specs.Placement.{is_on}
use Rattle.mf_places.proofs.Names.{All-sublist}
use Rattle.mf_places.proofs.OnServer.{rows-more, front-on, all-on}
use Rattle.mf_places.proofs.Book.names_on.Goals as goal

pub loop-c-preserved : goal.loop-c-preserved
loop-c-preserved c =
    let b = c.args.self.now in
    let p = is_on b c.args.server in
    c.in_ok-push_copies_on.ensures ∙ ap (λ ys. ys ++ filter p (copies_named b c.loop-c.c)) c.loop-c.invariant
    ∙ rows-more p (copies_named b) (filter p (data_names b)) c.loop-c.c

pub loop-width-preserved : goal.loop-width-preserved
loop-width-preserved c =
    let b = c.args.self.now in
    let p = is_on b c.args.server in
    c.in_ok-push_width_on.ensures ∙ ap (λ ys. ys ++ filter p (width_parities b c.loop-width.width))
    c.loop-width.invariant
    ∙ rows-more p (width_parities b) (filter p (data_names b ++ copy_names b)) c.loop-width.width

pub stage-copies-requires : goal.stage-copies-requires
stage-copies-requires c =
    let b = c.args.self.now in
    let book = subst (λ (v : BookFacts). IsBook v) c.self.view_is c.self.invariant.book in
    book.shape.chain.some

pub loop-width-init : goal.loop-width-init
loop-width-init c = front-on c.args.self.now c.args.server c.loop-c.c c.loop-c.found.items
    (let copies = ap (λ (x : Stage). x.copies) c.stage-copies.ensures.value in omega (arith, c.loop-c-test.false)) c.loop-c.invariant

pub returns-clause-sublist : goal.returns-clause-sublist
returns-clause-sublist c =
    let b = c.args.self.now in
    let widest : c.self.inside.widest ≡ max_width b.shape.stages =
    c.self.invariant.widest ∙ ap (λ (v : BookFacts). max_width v.shape.stages) c.self.view_is in
    all-on b c.args.server c.loop-width.width c.loop-width.found.items
    (omega (arith, c.loop-width-test.false)) c.loop-width.invariant

pub returns-clause-had : goal.returns-clause-had
returns-clause-had c =
    All-sublist c.args.self.now (is_on c.args.self.now c.args.server) c.loop-width.found.items
    (returns-clause-sublist c)
