use Rattle.std.proofs.Common.{◌+◌, ◌*◌, ◌≤◌, length, sym, ap, ◌∙◌, subst, arith}
use Rattle.mf_vault.specs.Conditions.{IsOfFamily}
use Rattle.mf_vault.specs.Actor.{Actor}
use Rattle.mf_vault.specs.Facts.{Facts}
use Rattle.mf_vault.proofs.Doing.{facts_stay}
use Rattle.mf_convert.specs.Create.{probes}
use Rattle.mf_convert.specs.Convert.{AllGoOn, factor_at, names_of}
use Rattle.mf_convert.specs.Converting.{AreFound, Completes, IsConverter}
use Rattle.mf_convert.proofs.Courses.{handed_on}
use Rattle.mf_convert.proofs.Steady.{converter_stays, probes_ops}
use Rattle.mf_convert.proofs.Probing.{all_long}
use Rattle.mf_convert.proofs.Completing.{ok_both, err_map, none_done, probes_cut, makes_cut, makes_done}
use Rattle.mf_convert.proofs.converting.complete.Goals as goal

pub returns-in_default-clause-cuts : goal.returns-in_default-clause-cuts
returns-in_default-clause-cuts g c = none_done c.prepared.ensures.stays c.requires.time

pub returns-in_err-probe_all-clause-cuts : goal.returns-in_err-probe_all-clause-cuts
returns-in_err-probe_all-clause-cuts g c = handed_on c.from_residual.result _ _ c.from_residual.ensures.1
    (probes_cut c.as_slice-names.result.now c.prepared.ensures.stays (c.as_slice-names.ensures.value
    ∙ c.in-Ok.ensures.names)
    c.in_err-probe_all.ensures.cuts)

pub make_all-requires-clause-family : goal.make_all-requires-clause-family
make_all-requires-clause-family g c = subst
    (λ (f : Facts). IsOfFamily c.args.family.now.shape c.args.family.now.points f.book)
    (sym (facts_stay c.in_ok-probe_all.ensures.completes.does ∙ ap (λ (z : Actor). z.facts) c.prepared.ensures.stays))
    c.requires.family

pub make_all-requires-clause-converter : goal.make_all-requires-clause-converter
make_all-requires-clause-converter g c = converter_stays c.in_ok-probe_all.ensures.completes.does
    (probes_ops c.as_slice-names.result.now c.probe_all.new.states.items)
    (subst (λ (z : Actor). IsConverter c.args.course.now.from z) (sym c.prepared.ensures.stays) c.requires.converter)

pub make_all-requires-clause-names : goal.make_all-requires-clause-names
make_all-requires-clause-names g c = c.as_slice-names.ensures.value ∙ (c.in-Ok.ensures.names
    ∙ ap (λ (f : Facts). names_of f (c.args.course.now.from + 1))
    (sym (facts_stay c.in_ok-probe_all.ensures.completes.does ∙ ap (λ (z : Actor). z.facts) c.prepared.ensures.stays)))

pub make_all-requires-clause-long : goal.make_all-requires-clause-long
make_all-requires-clause-long g c = ap length c.as_slice.ensures.value
    ∙ all_long (g.A.Access.actor c.prepared.new.access).facts.book c.args.course.now.from c.as_slice-names.result.now
    c.probe_all.new.states.items c.in_ok-probe_all.ensures.on

pub make_all-requires-clause-found : goal.make_all-requires-clause-found
make_all-requires-clause-found g c =
    subst (λ l. AreFound c.args.course.now.from
    (g.A.Access.actor c.probe_all.new.access) 0 c.as_slice-names.result.now l)
    (sym c.as_slice.ensures.value) c.in_ok-probe_all.ensures.found

pub make_all-requires-clause-room : goal.make_all-requires-clause-room
make_all-requires-clause-room g c =
    let from = c.args.course.now.from in
    let f = (g.A.Access.actor c.args.access.now).facts in
    let long = ap length c.as_slice-names.ensures.value in
    let room = subst (λ n. n * (factor_at f.book from + 2) ≤ g.A.Access.spare c.prepared.new.access)
    (sym long) c.in-Ok.ensures.room in
    let spare = c.in_ok-probe_all.ensures.room in
    subst (λ m. length c.as_slice-names.result.now * (m + 1) ≤ g.A.Access.spare c.probe_all.new.access)
    (ap (λ (h : Facts). factor_at h.book from)
    (sym (facts_stay c.in_ok-probe_all.ensures.completes.does ∙ ap (λ (z : Actor). z.facts) c.prepared.ensures.stays)))
    (omega arith)

pub returns-clause-completes : goal.returns-clause-completes
returns-clause-completes g c = ok_both c.make_all.result _ _ _
    (λ x p q. makes_done c.as_slice-names.result.now c.as_slice.result.now c.prepared.ensures.stays
    (c.as_slice-names.ensures.value ∙ c.in-Ok.ensures.names)
    (subst (λ l. AllGoOn
    (g.A.Access.actor c.prepared.new.access).facts.book c.args.course.now.from c.as_slice-names.result.now l)
    (sym c.as_slice.ensures.value) c.in_ok-probe_all.ensures.on)
    (subst (λ l. Completes c.args.course.now (probes c.as_slice-names.result.now l)
    (g.A.Access.actor c.prepared.new.access)
    (g.A.Access.actor c.probe_all.new.access)) (sym c.as_slice.ensures.value) c.in_ok-probe_all.ensures.completes) p q)
    c.make_all.ensures.completes c.make_all.ensures.done

pub returns-clause-cuts : goal.returns-clause-cuts
returns-clause-cuts g c = err_map c.make_all.result _ _
    (λ o k. makes_cut c.as_slice-names.result.now c.as_slice.result.now c.prepared.ensures.stays
    (c.as_slice-names.ensures.value ∙ c.in-Ok.ensures.names)
    (subst (λ l. AllGoOn
    (g.A.Access.actor c.prepared.new.access).facts.book c.args.course.now.from c.as_slice-names.result.now l)
    (sym c.as_slice.ensures.value) c.in_ok-probe_all.ensures.on)
    (subst (λ l. Completes c.args.course.now (probes c.as_slice-names.result.now l)
    (g.A.Access.actor c.prepared.new.access)
    (g.A.Access.actor c.probe_all.new.access)) (sym c.as_slice.ensures.value) c.in_ok-probe_all.ensures.completes) k)
    c.make_all.ensures.cuts
