use Rattle.std.proofs.Common.{◌≡◌, ◌<◌, ◌∙◌, sym, ap, subst, length, map, get_or, arith}
use Rattle.std.proofs.lemmas.List.{length-map}
use Rattle.mf_script.specs.declared.script.NamedFamily.{NamedFamily}
use Rattle.mf_lines.specs.Meaning.{Script}
use Rattle.mf_script.specs.Scripts.{block_of}
use Rattle.mf_script.specs.Families.{code_at}
use Rattle.mf_script.proofs.FamilyLemmas.{code_is}
use Rattle.mf_script.proofs.script.Script.family.Goals as goal

pub bounds-as_slice-i : goal.bounds-as_slice-i
bounds-as_slice-i c =
    let same = ap (λ (s : Script). length s.families) c.self.view_is in
    let long = length-map c.self.inside.families.items block_of in
    subst (λ fs. c.args.i < length fs) (sym c.as_slice.ensures.value) (omega (arith, same, long, c.requires))

pub returns : goal.returns
returns c =
    let families = c.self.inside.families.items in
    let same = ap (λ (s : Script). length s.families) c.self.view_is in
    let long = length-map families block_of in
    let named = c.index-as_slice-i.result in
    ap (λ (n : NamedFamily). n.family) (sym c.index-as_slice-i.is)
    ∙ code_is c.self.inside.servers families c.args.i named c.self.invariant.over
    (omega (arith, same, long, c.requires))
    (c.index-as_slice-i.is ∙ ap (λ fs. get_or fs c.args.i named) c.as_slice.ensures.value)
    ∙ ap (λ (s : Script). code_at s c.args.i) c.self.view_is
