use Rattle.std.proofs.Common.{◌≡◌, ◌+◌, true, sym, ap, ◌∙◌, subst}
use Rattle.mf_places.specs.declared.Name.{Name}
use Rattle.mf_places.specs.declared.Name.TheVariants as name
use Rattle.mf_places.specs.Generations.{holds}
use Rattle.mf_vault.specs.Facts.{Facts, cell_of}
use Rattle.mf_vault.proofs.Doing.{facts_stay}
use Rattle.mf_convert.specs.Convert.{sources}
use Rattle.mf_convert.specs.Converting.{IsFound}
use Rattle.mf_convert.proofs.Courses.{handed_on, stopped}
use Rattle.mf_convert.proofs.Steady.{converter_stays, gets_ops}
use Rattle.mf_convert.proofs.Next.{next_parity}
use Rattle.mf_convert.proofs.Making.{made, made_cut, made_stopped, found_after}
use Rattle.mf_convert.proofs.converting.make_one.Goals as goal

pub returns-in_err-cell-clause-cuts : goal.returns-in_err-cell-clause-cuts
returns-in_err-cell-clause-cuts g c = handed_on c.from_residual.result _ _ c.from_residual.ensures.1
    (made_cut c.in-Parity.field-0 c.in-Parity.j c.in-Parity.p c.args.name c.args.state c.in-Parity.is
    (sym c.is_missing.ensures ∙ c.if-not-is_missing.false) c.in_err-cell.ensures.cuts)

pub returns-in_err-go_on-clause-cuts : goal.returns-in_err-go_on-clause-cuts
returns-in_err-go_on-clause-cuts g c =
    handed_on c.from_residual-in_err-go_on.result _ _ c.from_residual-in_err-go_on.ensures.1
    (made_stopped c.in-Parity.field-0 c.in-Parity.j c.in-Parity.p c.args.name c.args.state c.in-Parity.is
    (sym c.is_missing.ensures ∙ c.if-not-is_missing.false) c.in_ok-cell.ensures.completes
    (λ d due. stopped d due c.in_err-go_on.ensures.stopped))

pub bring-requires-clause-converter : goal.bring-requires-clause-converter
bring-requires-clause-converter g c = converter_stays c.in_ok-cell.ensures.completes.does
    (gets_ops (g.A.Access.actor c.args.access.now).facts
    (sources (g.A.Access.actor c.args.access.now).facts.book c.args.course.now.from c.in-Parity.j c.in-Parity.p))
    c.requires.converter

pub bring-requires-clause-held : goal.bring-requires-clause-held
bring-requires-clause-held g c = subst (λ (x : Name). holds (g.A.Access.actor c.merged.new.access).facts.book
    (c.args.course.now.from + 1) x ≡ true)
    c.in-Parity.is
    (subst (λ (f : Facts). holds f.book (c.args.course.now.from + 1) c.args.name ≡ true)
    (sym (facts_stay c.in_ok-cell.ensures.completes.does)) c.requires.held)

pub bring-requires-clause-found : goal.bring-requires-clause-found
bring-requires-clause-found g c = subst
    (λ (x : Name). IsFound c.args.course.now.from (g.A.Access.actor c.merged.new.access) x c.args.state)
    c.in-Parity.is
    (found_after c.args.course.now.from
    (sources (g.A.Access.actor c.args.access.now).facts.book c.args.course.now.from c.in-Parity.j c.in-Parity.p)
    c.args.name c.args.state c.in_ok-cell.ensures.completes.does c.requires.found)

pub bring-requires-clause-cell : goal.bring-requires-clause-cell
bring-requires-clause-cell g c =
    let f = (g.A.Access.actor c.args.access.now).facts in
    let held = subst (λ (x : Name). holds f.book (c.args.course.now.from + 1) x
    ≡ true) c.in-Parity.is c.requires.held in
    let wide = next_parity f.book c.args.course.now.from c.in-Parity.field-0 c.in-Parity.j c.in-Parity.p held in
    c.in_ok-cell.ensures.cell
    ∙ (ap (λ w. cell_of f (name.Parity w c.in-Parity.j c.in-Parity.p)) (sym wide.0)
    ∙ ap (λ (h : Facts). cell_of h (name.Parity c.in-Parity.field-0 c.in-Parity.j c.in-Parity.p))
    (sym (facts_stay c.in_ok-cell.ensures.completes.does)))

pub returns-clause-completes : goal.returns-clause-completes
returns-clause-completes g c =
    made c.in-Parity.field-0 c.in-Parity.j c.in-Parity.p c.args.name c.args.state c.in-Parity.is
    (sym c.is_missing.ensures ∙ c.if-not-is_missing.false) c.in_ok-cell.ensures.completes c.in_ok-go_on.ensures.on
    c.bring.ensures.does
