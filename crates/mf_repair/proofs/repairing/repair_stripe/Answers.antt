use Rattle.std.proofs.Common.{◌≡◌, ◌<◌, ◌≤◌, List, length, ap, sym, ◌∙◌, subst, arith}
use Rattle.std.proofs.lemmas.Bool.{eqb-true, eqb-false}
use Rattle.std.proofs.lemmas.Bool.{cases_lt}
use Rattle.mf_decode.specs.declared.gathering.Gathered.TheVariants as gathered
use Rattle.mf_places.specs.declared.Name.{Name}
use Rattle.mf_read.specs.Stripes.{chunks_of_stripe}
use Rattle.mf_vault.specs.Conditions.{IsOfFamily}
use Rattle.mf_vault.specs.Facts.{Facts, stages}
use Rattle.mf_vault.specs.Licence.{Does}
use Rattle.mf_vault.proofs.Doing.{facts_stay}
use Rattle.mf_repair.specs.Repair.{restores}
use Rattle.mf_repair.proofs.Staying.{stays_then, stays_gathered, stays_same, mender_stays, has_stays}
use Rattle.mf_repair.proofs.Mended.{nothing_probed, none_lost, all_restored, none_restored, cut_there, lost_after}
use Rattle.mf_repair.proofs.Mended.{apart_after}
use Rattle.mf_repair.proofs.Mended.{lacks_names, entries_from, ended_short, some_by}
use Rattle.mf_repair.proofs.repairing.repair_stripe.Goals as goal

pub returns-in_default-clause-repairs : goal.returns-in_default-clause-repairs
returns-in_default-clause-repairs g c = nothing_probed c.args.g c.args.j c.in_default.ensures

pub returns-then-is_empty-clause-repairs : goal.returns-then-is_empty-clause-repairs
returns-then-is_empty-clause-repairs g c = none_lost c.args.g c.args.j c.in-Ok.ensures
    (sym (ap length c.as_slice-lost.ensures.value)
    ∙ eqb-true (length c.as_slice-lost.result.now) 0 (sym c.is_empty.ensures ∙ c.if-is_empty.true))

pub restore_stripe-requires-clause-mender : goal.restore_stripe-requires-clause-mender
restore_stripe-requires-clause-mender g c = mender_stays c.requires.mender
    (stays_then c.in-Ok.ensures.stays (stays_gathered c.args.g c.args.j
    (gathered.All c.in-All.chunks) c.in-All.ensures))

pub restore_stripe-requires-clause-stripe : goal.restore_stripe-requires-clause-stripe
restore_stripe-requires-clause-stripe g c = has_stays c.requires.stripe
    (stays_then c.in-Ok.ensures.stays (stays_gathered c.args.g c.args.j
    (gathered.All c.in-All.chunks) c.in-All.ensures))

pub restore_stripe-requires-clause-family : goal.restore_stripe-requires-clause-family
restore_stripe-requires-clause-family g c =
    subst (λ (f : Facts). IsOfFamily c.args.family.now.shape c.args.family.now.points f.book)
    (sym (stays_then c.in-Ok.ensures.stays (stays_gathered c.args.g c.args.j
    (gathered.All c.in-All.chunks) c.in-All.ensures)).facts)
    c.requires.family

pub restore_stripe-requires-clause-apart : goal.restore_stripe-requires-clause-apart
restore_stripe-requires-clause-apart g c =
    apart_after c.args.g c.args.j (g.met.A.Access.kept c.args.access.now).file.layout c.requires.stripe
    c.in-Ok.ensures
    (stays_then c.in-Ok.ensures.stays (stays_gathered c.args.g c.args.j
    (gathered.All c.in-All.chunks) c.in-All.ensures))
    c.as_slice-lost.ensures.value

pub restore_stripe-requires-clause-lost : goal.restore_stripe-requires-clause-lost
restore_stripe-requires-clause-lost g c =
    let (asks, served, does, chunks) = c.in-All.ensures in
    lost_after c.args.g c.args.j c.in-Ok.ensures asks does c.as_slice-lost.ensures.value

pub restore_stripe-requires-clause-chunks : goal.restore_stripe-requires-clause-chunks
restore_stripe-requires-clause-chunks g c =
    let (asks, served, does, chunks) = c.in-All.ensures in
    c.as_slice.ensures.value ∙ (chunks ∙ ap (λ (f : Facts). chunks_of_stripe f c.args.g c.args.j) (sym
    (facts_stay does)))

pub returns-in-Ok-restore_stripe-clause-repairs : goal.returns-in-Ok-restore_stripe-clause-repairs
returns-in-Ok-restore_stripe-clause-repairs g c =
    let (asks, served, does, chunks) = c.in-All.ensures in
    all_restored c.args.g c.args.j c.in-Ok.ensures
    (some_by c.as_slice-lost.ensures.value (sym c.is_empty.ensures ∙ c.if-is_empty.false)) asks served does
    (subst (λ (l : List Name). Does (restores l) (g.A.Access.actor c.gather_stripe.new.access)
    (g.A.Access.actor c.restore_stripe.new.access)) c.as_slice-lost.ensures.value
    c.in-Ok-restore_stripe.ensures.restores)

pub returns-in-Ok-restore_stripe-clause-stays : goal.returns-in-Ok-restore_stripe-clause-stays
returns-in-Ok-restore_stripe-clause-stays g c = stays_then c.in-Ok.ensures.stays
    (stays_then (stays_gathered c.args.g c.args.j (gathered.All c.in-All.chunks) c.in-All.ensures)
    c.restore_stripe.ensures.stays)

pub returns-in-All-clause-repairs : goal.returns-in-All-clause-repairs
returns-in-All-clause-repairs g c =
    let (asks, served, does, chunks) = c.in-All.ensures in
    none_restored c.args.g c.args.j c.in-Ok.ensures
    (some_by c.as_slice-lost.ensures.value (sym c.is_empty.ensures ∙ c.if-is_empty.false)) asks served does
    c.in-Err.ensures.restores

pub returns-in-All-clause-stays : goal.returns-in-All-clause-stays
returns-in-All-clause-stays g c = stays_then c.in-Ok.ensures.stays
    (stays_then (stays_gathered c.args.g c.args.j (gathered.All c.in-All.chunks) c.in-All.ensures)
    c.restore_stripe.ensures.stays)

pub short_from-requires-clause-stage : goal.short_from-requires-clause-stage
short_from-requires-clause-stage g c = (mender_stays c.requires.mender
    (stays_then c.in-Ok.ensures.stays (stays_gathered c.args.g c.args.j gathered.Short c.in-Short.ensures))).stage

pub short_from-requires-clause-from : goal.short_from-requires-clause-from
short_from-requires-clause-from g c = entries_from c.args.g c.args.j _
    (ap length c.ledger-from.ensures) c.in-Ok.ensures
    (some_by c.as_slice-lost.ensures.value (sym c.is_empty.ensures ∙ c.if-is_empty.false)) c.in-Short.ensures

pub short_from-requires-clause-lost : goal.short_from-requires-clause-lost
short_from-requires-clause-lost g c = lacks_names c.args.g c.args.j _
    (g.met.A.Access.kept c.args.access.now).file.layout
    c.requires.mender.stage (ap length c.ledger-from.ensures) c.in-Ok.ensures
    (some_by c.as_slice-lost.ensures.value (sym c.is_empty.ensures ∙ c.if-is_empty.false)) c.in-Short.ensures

pub returns-in-Short-clause-repairs : goal.returns-in-Short-clause-repairs
returns-in-Short-clause-repairs g c = ended_short c.args.g c.args.j _ c.short_from.result
    (ap length c.ledger-from.ensures) c.in-Ok.ensures
    (some_by c.as_slice-lost.ensures.value (sym c.is_empty.ensures ∙ c.if-is_empty.false)) c.in-Short.ensures
    c.short_from.ensures

pub returns-in-Short-clause-stays : goal.returns-in-Short-clause-stays
returns-in-Short-clause-stays g c =
    stays_then c.in-Ok.ensures.stays (stays_gathered c.args.g c.args.j gathered.Short c.in-Short.ensures)

pub returns-clause-repairs : goal.returns-clause-repairs
returns-clause-repairs g c = cut_there c.args.g c.args.j c.in-Ok.ensures
    (some_by c.as_slice-lost.ensures.value (sym c.is_empty.ensures ∙ c.if-is_empty.false)) c.in-Memory.ensures

pub returns-clause-stays : goal.returns-clause-stays
returns-clause-stays g c =
    stays_then c.in-Ok.ensures.stays (stays_gathered c.args.g c.args.j gathered.Memory c.in-Memory.ensures)
