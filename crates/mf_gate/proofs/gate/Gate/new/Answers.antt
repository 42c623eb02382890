use Rattle.std.proofs.Common.{◌≡◌, ℕ, List, sym, ap, ◌∙◌, subst}
use Rattle.atomic_table.specs.Table.{opening}
use Rattle.mf_machine.specs.Worlds.{first_view}
use Rattle.mf_vault.specs.declared.answers.Rest.{Rest}
use Rattle.mf_gate.specs.declared.known.About.{About}
use Rattle.mf_gate.specs.Resting.{HasWords, HasSlots, about_of}
use Rattle.mf_gate.specs.Table.{Rule, facts_of, file_of}
use Rattle.mf_gate.proofs.Opening.{opens}
use Rattle.mf_gate.proofs.gate.Gate.new.Goals as goal

pub new-requires : goal.new-requires
new-requires c = let a = c.args in
    let k = about_of a.book.now a.bytes.now.value a.losses.now a.published a.closed.now in
    let names = a.names.items in let p = c.in-Ok.field-0 in
    let e : c.known_of-known.result.value ≡ k names =
    c.known_of-known.ensures ∙ ap (λ (l : List Rest). k l) c.as_slice-2.ensures.value in
    let words = subst (λ (l : List Rest). HasWords a.published a.closed.now l p.words.items) c.as_slice.ensures.value
    c.in-Ok.ensures.0 in
    let slots = subst (λ (l : List Rest). HasSlots l p.slots.items) c.as_slice.ensures.value c.in-Ok.ensures.1 in
    subst (λ (z : About × List ℕ). Rule z.0 (opening z.1 p.slots.items
    (record { about = z.0; view = first_view (file_of z.0) (facts_of z.0).opening })))
    (λ j. (sym e j, sym c.as_slice-3.ensures.value j)) (opens (k names) p.words.items p.slots.items c.requires words
    slots)
