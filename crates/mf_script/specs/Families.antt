-- The families of a script, and the family of a file. Families are numbered from 0, as files are.
use Rattle.std.specs.Prelude.{◌≡◌, ◌<◌, ◌≤◌, ℕ, List, length, map, All, Option, None, IfSome, slice_index, slice_index_or}
use Rattle.mf_check.specs.Families.{Code}
use Rattle.mf_policy.specs.Due.{policies_of}
use Rattle.mf_lines.specs.Meaning.{Block, Script, no_block}
use Rattle.mf_script.specs.Scripts.{code_of}

-- ---- by a family's number

-- what is said of the family
abbrev pub block_at : Script → (i : ℕ) → Block
block_at s i = slice_index_or s.families i no_block

-- its code
abbrev pub code_at : Script → (i : ℕ) → Code
code_at s i = code_of s (block_at s i)

-- the policies of all families, where they have one: each has the script's
abbrev pub policies_in : Script → List (Option (List ℕ))
policies_in s = map (λ (block : Block). s.policy) s.families

-- that of the family
abbrev pub policy_at : Script → (i : ℕ) → Option (List ℕ)
policy_at s i = slice_index_or (policies_in s) i None

-- ---- by a file's number

-- the number of the file's family
abbrev pub family_of : Script → (file : ℕ) → ℕ
family_of s file = slice_index s.file_families file

-- the code of the file's family
abbrev pub file_code : Script → (file : ℕ) → Code
file_code s file = code_at s (family_of s file)

-- for each file the policy of its family
abbrev pub file_policies : Script → List (Option (List ℕ))
file_policies s = policies_of (policies_in s) s.file_families

-- ---- what every script keeps

-- the family has one to four stages, and its policy has a threshold for each, where it has one
pub record FamilyFits (s : Script) (i : ℕ) : Type 0 where
  pub some : 0 < length (block_at s i).stages
  pub few : length (block_at s i).stages ≤ 4
  pub policy : IfSome (policy_at s i) (λ thresholds. length thresholds ≡ length (block_at s i).stages)

-- so it is with each family
abbrev pub FamiliesFit : Script → Type 0
FamiliesFit s = (i : ℕ) → i < length s.families → FamilyFits s i

-- each file belongs to one of the families
pub record FilesBelong (s : Script) : Type 0 where
  pub count : length s.file_families ≡ length s.files
  pub each : All (λ i. i < length s.families) s.file_families
