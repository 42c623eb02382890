use Rattle.std.proofs.Common.{◌<◌, ◌++◌, length, ap, sym, ◌∙◌, subst}
use Rattle.mf_vault.specs.Facts.{Facts, stages}
use Rattle.mf_vault.proofs.Doing.{facts_stay}
use Rattle.mf_read.specs.Asking.{gets}
use Rattle.mf_read.specs.Steps.{bytes_at}
use Rattle.mf_read.specs.declared.outcome.IntoOutcome.TheVariants as into
use Rattle.mf_read.specs.Stripes.{chunks_of_stripe}
use Rattle.mf_read.proofs.Stripewise.{whole_cut, stripe_lacks, stripe_from, stripe_short, none_until}
use Rattle.mf_read.proofs.reading.read_stripe.Goals as goal

pub hand_stripe-requires-clause-stage : goal.hand_stripe-requires-clause-stage
hand_stripe-requires-clause-stage g c =
    let (asks, served, does, chunks) = c.in-All.ensures in
    subst (λ (f : Facts). c.args.g < stages f) (sym (facts_stay does)) c.requires.reader.stage

pub hand_stripe-requires-clause-chunks : goal.hand_stripe-requires-clause-chunks
hand_stripe-requires-clause-chunks g c =
    let (asks, served, does, chunks) = c.in-All.ensures in
    c.as_slice.ensures.value ∙ chunks ∙ ap (λ (f : Facts). chunks_of_stripe f c.args.g c.args.j) (sym (facts_stay does))

pub returns-in-Ok-clause-reads : goal.returns-in-Ok-clause-reads
returns-in-Ok-clause-reads g c =
    let (asks, served, does, chunks) = c.in-All.ensures in (asks, served, does)

pub returns-in-Ok-clause-hands : goal.returns-in-Ok-clause-hands
returns-in-Ok-clause-hands g c =
    let (asks, served, does, chunks) = c.in-All.ensures in
    c.in-Ok.ensures
    ∙ ap (λ (f : Facts). g.T.Taker.taken c.args.taker.now ++ bytes_at f c.args.g c.args.j) (facts_stay does)

pub returns-in-All-clause-reads : goal.returns-in-All-clause-reads
returns-in-All-clause-reads g c =
    let (asks, served, does, chunks) = c.in-All.ensures in
    let f = (g.A.Access.actor c.args.access.now).facts in
    (gets f asks, (λ v. whole_cut f c.args.g c.args.j asks served.0), does)

pub returns-in-All-clause-hands : goal.returns-in-All-clause-hands
returns-in-All-clause-hands g c =
    let (asks, served, does, chunks) = c.in-All.ensures in
    let (front, rest, e, told) = c.in-Err.ensures in
    (front, rest, ap (λ (f : Facts). bytes_at f c.args.g c.args.j) (sym (facts_stay does)) ∙ e, told)

pub short_from-requires-clause-stage : goal.short_from-requires-clause-stage
short_from-requires-clause-stage g c =
    let (asks, short, does) = c.in-Short.ensures in
    subst (λ (f : Facts). c.args.g < stages f) (sym (facts_stay does)) c.requires.reader.stage

pub short_from-requires-clause-from : goal.short_from-requires-clause-from
short_from-requires-clause-from g c = stripe_from c.args.g c.args.j _
    (ap length c.ledger-from.ensures) c.in-Short.ensures

pub short_from-requires-clause-lost : goal.short_from-requires-clause-lost
short_from-requires-clause-lost g c = stripe_lacks c.args.g c.args.j _
    (ap length c.ledger-from.ensures) c.in-Short.ensures

pub returns-in-Short-clause-reads : goal.returns-in-Short-clause-reads
returns-in-Short-clause-reads g c = stripe_short c.args.g c.args.j _ c.short_from.result
    (ap length c.ledger-from.ensures) c.in-Short.ensures c.short_from.ensures

pub returns-in-Short-clause-hands : goal.returns-in-Short-clause-hands
returns-in-Short-clause-hands g c = none_until (bytes_at (g.A.Access.actor c.args.access.now).facts c.args.g c.args.j)
    c.short_from.result (g.T.Taker.taken c.args.taker.now)

pub returns-clause-hands : goal.returns-clause-hands
returns-clause-hands g c = none_until (bytes_at (g.A.Access.actor c.args.access.now).facts c.args.g c.args.j)
    into.Memory (g.T.Taker.taken c.args.taker.now)

pub returns-clause-reads : goal.returns-clause-reads
returns-clause-reads g c = let (cs, cut, does) = c.in-Memory.ensures in (cs, (λ v. cut), does)
