use Rattle.std.proofs.Common.{◌≡◌, min, ap, subst, ◌∙◌, arith}
use Rattle.mf_places.specs.Facts.{BookFacts, IsBook, chunks_of}
use Rattle.mf_places.proofs.OnServer.{copies-step, copies-on}
use Rattle.mf_places.proofs.Book.push_copies_on.Goals as goal

pub loop-i-preserved : goal.loop-i-preserved
loop-i-preserved c =
    let b = c.args.self.now in
    let book = subst (λ (v : BookFacts). IsBook v) c.self.view_is c.self.invariant.book in
    let chunks : c.self.inside.chunks ≡ chunks_of b = c.self.invariant.chunks ∙ ap chunks_of c.self.view_is in (
      omega arith,
      copies-step b book c.args.server c.args.c c.loop-i.i c.step-i.result c.in_ok-on.on
          c.args.found.now.items c.loop-i.found.items c.push_on.new.found.items (omega arith) c.in_ok-on.ensures.on
          c.step-i.ensures.value c.loop-i.invariant.1 c.in_ok-on.ensures.found,
    )

pub returns : goal.returns
returns c =
    let b = c.args.self.now in
    let chunks : c.self.inside.chunks ≡ chunks_of b = c.self.invariant.chunks ∙ ap chunks_of c.self.view_is in
    copies-on b c.args.server c.args.c (min c.loop-i.i (chunks_of b)) c.args.found.now.items c.loop-i.found.items
    (omega (arith, c.loop-i-test.false)) c.loop-i.invariant.1
