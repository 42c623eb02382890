use Rattle.std.proofs.Common.{◌≡◌, ℕ, List, [], ◌∷◌, ap, sym, ◌∙◌, subst, Option, map, arith}
use Rattle.mf_lines.specs.Meaning.{Block, Script}
use Rattle.mf_script.specs.Families.{policies_in, FamiliesFit}
use Rattle.mf_script.proofs.FamilyLemmas.{one_policy, families_fit}
use Rattle.mf_script.proofs.script.Script.policies.Goals as goal

pub returns-clause-value : goal.returns-clause-value
returns-clause-value c =
    c.from_ref.ensures.value ∙ sym (one_policy _ c.self.invariant.sound.one) ∙ ap policies_in c.self.view_is

pub returns-clause-kept : goal.returns-clause-kept
returns-clause-kept c =
    subst FamiliesFit c.self.view_is (families_fit _ c.self.invariant.sound)
