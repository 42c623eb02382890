use Rattle.std.proofs.Common.{◌≡◌, ◌<◌, ◌++◌, ℕ, [], List, ap, sym, ◌∙◌, subst, arith}
use Rattle.mf_places.specs.Facts.{BookFacts}
use Rattle.mf_vault.specs.Facts.{Facts}
use Rattle.mf_vault.proofs.Doing.{facts_stay}
use Rattle.mf_vault.specs.Conditions.{IsOfFamily}
use Rattle.mf_read.specs.Reading.{stripes, AreServed}
use Rattle.mf_read.specs.Taking.{bytes_before}
use Rattle.mf_read.proofs.Stripewise.{none_read, one_read, ended_there, ended_hands, vector, all_bytes}
use Rattle.mf_read.proofs.Stripewise.{pinner_reads}
use Rattle.mf_read.proofs.reading.read_stripes.Goals as goal

pub loop-j-init : goal.loop-j-init
loop-j-init g c = none_read c.args.g (g.T.Taker.taken c.args.taker.now) (g.A.Access.actor c.args.access.now)

pub read_stripe-requires-clause-family : goal.read_stripe-requires-clause-family
read_stripe-requires-clause-family g c =
    subst (λ (f : Facts). IsOfFamily c.args.family.now.shape c.args.family.now.points f.book) (sym
    (facts_stay c.loop-j.invariant.does)) c.requires.family

pub read_stripe-requires-clause-reader : goal.read_stripe-requires-clause-reader
read_stripe-requires-clause-reader g c =
    let a = g.A.Access.actor c.args.access.now in
    let t = c.loop-j.invariant in
    let end = c.stripes-j-end.ensures ∙ ap (λ (b : BookFacts). stripes b c.args.g) c.book.ensures in
    pinner_reads c.args.g c.loop-j.j a.facts t.asks c.requires.pinned t.does (subst (λ
    (n : ℕ). c.loop-j.j < n) end c.loop-j-test.true)

pub returns-in-Err-clause-reads : goal.returns-in-Err-clause-reads
returns-in-Err-clause-reads g c = ended_there c.args.g c.loop-j.j (g.T.Taker.taken c.args.taker.now)
    (g.T.Taker.taken c.loop-j.taker) c.in-Err.outcome c.loop-j.invariant c.in-Err.ensures.reads

pub returns-in-Err-clause-hands : goal.returns-in-Err-clause-hands
returns-in-Err-clause-hands g c = ended_hands (vector c.args.alloc [] (omega arith)) c.args.g c.loop-j.j
    (g.T.Taker.taken c.args.taker.now) (g.T.Taker.taken c.loop-j.taker) (g.T.Taker.taken c.read_stripe.new.taker)
    c.in-Err.outcome c.loop-j.invariant c.in-Err.ensures.reads c.in-Err.ensures.hands

pub loop-j-preserved : goal.loop-j-preserved
loop-j-preserved g c =
    one_read c.args.g c.loop-j.j (g.T.Taker.taken c.args.taker.now) (g.T.Taker.taken c.loop-j.taker)
    c.read_stripe.result (g.T.Taker.taken c.read_stripe.new.taker)
    c.loop-j.invariant c.in_default.is c.read_stripe.ensures.reads c.read_stripe.ensures.hands

pub returns-clause-reads : goal.returns-clause-reads
returns-clause-reads g c =
    let a = g.A.Access.actor c.args.access.now in
    let t = c.loop-j.invariant in
    let end = c.stripes-j-end.ensures ∙ ap (λ (b : BookFacts). stripes b c.args.g) c.book.ensures in
    let high = c.loop-j-test.false in
    let low = c.loop-j.auto.j-end in
    let j : c.loop-j.j ≡ stripes a.facts.book c.args.g = omega arith in
    (t.asks, subst (λ (n : ℕ). AreServed a.facts.book c.args.g n t.asks) j t.served, t.does)

pub returns-clause-hands : goal.returns-clause-hands
returns-clause-hands g c =
    let a = g.A.Access.actor c.args.access.now in
    let t = c.loop-j.invariant in
    let end = c.stripes-j-end.ensures ∙ ap (λ (b : BookFacts). stripes b c.args.g) c.book.ensures in
    let high = c.loop-j-test.false in
    let low = c.loop-j.auto.j-end in
    let j : c.loop-j.j ≡ stripes a.facts.book c.args.g = omega arith in
    let kept = g.met.A.Access.kept c.args.access.now in
    t.told ∙ ap (λ (n : ℕ). g.T.Taker.taken c.args.taker.now ++ bytes_before a.facts c.args.g n) j
    ∙ ap (λ (l : List ℕ). g.T.Taker.taken c.args.taker.now ++ l)
    (all_bytes a.facts c.args.g kept.file c.requires.pinned.stage)
