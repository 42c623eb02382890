-- What is known of a script's families, and of its files'.
use Rattle.std.proofs.Common.{◌≡◌, ℕ, ◌<◌, ◌≤◌, List, ◌∷◌, [], length, map, All, Option, Some, None, get_or, sym, ap, ◌∙◌}
use Rattle.std.proofs.Common.{subst, arith, IfSome}
use Rattle.std.proofs.lemmas.List.{get_or-map, length-map}
use Rattle.std.proofs.lemmas.List.Elements.{All-map}
use Rattle.mf_check.specs.Families.{Code}
use Rattle.mf_lines.specs.declared.parts.FileLine.{FileLine}
use Rattle.mf_lines.specs.Meaning.{Block, Script, no_block}
use Rattle.mf_script.specs.declared.script.NamedFamily.{NamedFamily}
use Rattle.mf_script.specs.Scripts.{block_of}
use Rattle.mf_script.specs.Families.{block_at, policies_in, policy_at, FamiliesFit, FilesBelong}
use Rattle.mf_script.specs.Sound.{HasOne, IsSound}

-- a script has one family
pub one_family : (s : Script) → HasOne s → length s.families ≡ 1
one_family s one = ap length one.families

-- and so one policy
pub one_policy : (s : Script) → HasOne s → policies_in s ≡ s.policy ∷ []
one_policy s one = ap (map (λ (block : Block). s.policy)) one.families

pub families_fit : (s : Script) → IsSound s → FamiliesFit s
families_fit s is i low =
    let one = one_family s is.one in
    let first : 0 ≡ i = omega arith in
    let chain = (is.families i no_block low).shape_ok.chain in
    let some = chain.some in
    let few = chain.few in
    record {
      some = omega arith;
      few = omega arith;
      policy = subst (λ p. IfSome p (λ thresholds. length thresholds ≡ length (block_at s i).stages))
          (sym (get_or-map (λ (block : Block). s.policy) s.families i no_block None low))
          (subst (λ k. IfSome s.policy (λ thresholds. length thresholds ≡ length (block_at s k).stages)) first is.policy);
    }

pub files_belong : (s : Script) → HasOne s → FilesBelong s
files_belong s has =
    let one = one_family s has in
    let within : ℕ → Type 0 = λ i. i < length s.families in
    record {
      count = ap length has.file_families ∙ length-map s.files (λ (file : FileLine). 0);
      each = subst (All within) (sym has.file_families)
          (All-map within (λ (file : FileLine). 0) s.files (λ k d low. omega arith));
    }

-- ---- of the families that the code has

-- what is said of the family at a place
pub block_is : (families : List NamedFamily) (i : ℕ) (named : NamedFamily) → i < length families
    → named ≡ get_or families i named → block_of named ≡ get_or (map block_of families) i no_block
block_is families i named low is = ap block_of is ∙ sym (get_or-map block_of families i named no_block low)

-- and its code, over the servers of all families
pub code_is : (servers : ℕ) (families : List NamedFamily) (i : ℕ) (named : NamedFamily)
    → All (λ (n : NamedFamily). n.family.shape.servers ≡ servers) families → i < length families
    → named ≡ get_or families i named → named.family ≡ record {
      shape = record { stages = (get_or (map block_of families) i no_block).stages; servers = servers };
      points = (get_or (map block_of families) i no_block).points;
    }
code_is servers families i named over low is =
    let on = ap (λ (n : NamedFamily). n.family.shape.servers) is ∙ over i named low in
    let block = block_is families i named low is in
    (λ j. record { shape = record { stages = named.family.shape.stages; servers = on j }; points = named.family.points })
    ∙ (λ j. record { shape = record { stages = (block j).stages; servers = servers }; points = (block j).points })
