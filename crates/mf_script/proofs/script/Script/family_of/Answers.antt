use Rattle.std.proofs.Common.{◌≡◌, ◌<◌, ℕ, ◌∙◌, sym, ap, subst, List, length, arith}
use Rattle.std.specs.Prelude.{slice_index}
use Rattle.mf_lines.specs.Meaning.{Script}
use Rattle.mf_script.specs.Families.{FilesBelong}
use Rattle.mf_script.proofs.FamilyLemmas.{files_belong}
use Rattle.mf_script.proofs.script.Script.family_of.Goals as goal

pub bounds-as_slice-file : goal.bounds-as_slice-file
bounds-as_slice-file c =
    let belong = subst FilesBelong c.self.view_is (files_belong _ c.self.invariant.sound.one) in
    let same = ap length (c.as_slice.ensures.value ∙ ap (λ (v : Script). v.file_families) c.self.view_is) in
    let count = belong.count in
    omega (arith, c.requires)

pub returns-clause-number : goal.returns-clause-number
returns-clause-number c =
    ap (λ hs. slice_index hs c.args.file) c.as_slice.ensures.value
    ∙ ap (λ (v : Script). slice_index v.file_families c.args.file) c.self.view_is

pub returns-clause-family : goal.returns-clause-family
returns-clause-family c =
    let belong = subst FilesBelong c.self.view_is (files_belong _ c.self.invariant.sound.one) in
    let count = belong.count in
    let here = belong.each c.args.file 0 (omega (arith, c.requires)) in
    subst (λ i. i < length c.args.self.now.families) (sym (returns-clause-number c)) here
