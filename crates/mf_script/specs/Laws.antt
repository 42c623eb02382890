-- Laws of scripts.
use Rattle.std.specs.Prelude.{◌≡◌, ℕ, List, []}
use Rattle.mf_check.specs.declared.FamilyFault.TheVariants as family
use Rattle.mf_lines.specs.declared.parts.Kind.{Kind}
use Rattle.mf_lines.specs.declared.parts.Kind.TheVariants as kind
use Rattle.mf_lines.specs.Meaning.{Script}
use Rattle.mf_script.specs.Scripts.{IsScript}
use Rattle.mf_script.specs.Faults.{IsFault}
use Rattle.mf_script.specs.Seeds.{seed_text}

-- the kind without the kernel list of a set of places that isn't decodable
abbrev pub bare : Kind → Kind
bare (kind.Family (family.Undecodable g places kernel)) = kind.Family (family.Undecodable g places [])
bare k = k

-- A text has one answer: it is one script and not another, or has one fault and not another, and never both. Of the
-- fault of a set of places nothing is said here of its kernel list.
pub record OneAnswer : Type 0 where
  pub script : (text : List ℕ) (s t : Script) → IsScript text s → IsScript text t → s ≡ t
  pub fault : (text : List ℕ) (m n : ℕ) (j k : Kind) → IsFault text m j → IsFault text n k → (m ≡ n) × (bare j ≡ bare k)
  pub either : (text : List ℕ) (s : Script) (n : ℕ) (k : Kind) → IsScript text s → IsFault text n k → ⊥

-- the text of each seed is a script
abbrev pub SeedsAreScripts : Type 0
SeedsAreScripts = (n : ℕ) → (s : Script) × IsScript (seed_text n) s
