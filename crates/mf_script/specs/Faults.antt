-- The fault of a text: that of its lines, and, where no line has one, that of its stages, and then that of its points.
use Rattle.std.specs.Prelude.{◌≡◌, ◌≢◌, ℕ, ◌⊎◌, List}
use Rattle.mf_shape.specs.declared.ShapeFault.{ShapeFault}
use Rattle.mf_shape.specs.declared.ShapeFault.TheVariants as shape
use Rattle.mf_shape.specs.Chain.{IsShape}
use Rattle.mf_shape.specs.Faults as shapes
use Rattle.mf_check.specs.declared.FamilyFault.{FamilyFault}
use Rattle.mf_check.specs.declared.FamilyFault.TheVariants as family
use Rattle.mf_check.specs.Families.{Code}
use Rattle.mf_check.specs.Faults as families
use Rattle.mf_lines.specs.declared.parts.Kind.{Kind}
use Rattle.mf_lines.specs.declared.parts.Kind.TheVariants as kind
use Rattle.mf_lines.specs.declared.parts.ScriptFault.{ScriptFault}
use Rattle.mf_lines.specs.declared.forms.Form.{Form}
use Rattle.mf_lines.specs.Meaning.{Script, so_of, main_of}
use Rattle.mf_script.specs.Texts.{HasForms, IsLineFault}
use Rattle.mf_script.specs.Scripts.{code_of}

-- a fault of the stages; want of memory is the script's own kind
abbrev pub shape_kind : ShapeFault → Kind
shape_kind shape.Memory = kind.Memory
shape_kind fault = kind.Shape fault

-- and one of the points
abbrev pub family_kind : FamilyFault → Kind
family_kind family.Memory = kind.Memory
family_kind fault = kind.Family fault

-- the family of a script: its stages over its servers, and its points
abbrev pub main_code : Script → Code
main_code s = code_of s (main_of s)

-- The lines have no fault, and the stages have this one, which is told at the line of the first.
pub record IsShapeFault (text : List ℕ) (n : ℕ) (k : Kind) : Type 0 where
  pub fault : ShapeFault
  pub is : k ≡ kind.Shape fault
  pub forms : List Form
  pub lines : HasForms text forms
  pub line : n ≡ (so_of forms).stage_line
  pub not_memory : fault ≢ shape.Memory
  pub first : shapes.IsFirst (main_of (so_of forms).script).stages (so_of forms).script.servers fault

-- The lines and the stages have no fault, and the points have this one, which is told at the line of the first stage.
pub record IsFamilyFault (text : List ℕ) (n : ℕ) (k : Kind) : Type 0 where
  pub fault : FamilyFault
  pub is : k ≡ kind.Family fault
  pub forms : List Form
  pub lines : HasForms text forms
  pub line : n ≡ (so_of forms).stage_line
  pub not_memory : fault ≢ family.Memory
  pub shape_ok : IsShape (main_code (so_of forms).script).shape
  pub first : families.IsFault (main_of (so_of forms).script).stages (main_of (so_of forms).script).points fault

-- the text has a fault of this kind, told at line n: of its lines, of its stages, or of its points
abbrev pub IsFault : List ℕ → ℕ → Kind → Type 0
IsFault text n k = IsLineFault text n k ⊎ (IsShapeFault text n k ⊎ IsFamilyFault text n k)

-- the text has this fault, or memory ran out
abbrev pub IsScriptFault : List ℕ → ScriptFault → Type 0
IsScriptFault text fault = (fault.kind ≡ kind.Memory) ⊎ IsFault text fault.line fault.kind
