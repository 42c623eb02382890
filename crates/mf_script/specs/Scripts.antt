-- A script: what contracts see of one, and which text is one.
use Rattle.std.specs.Prelude.{◌≡◌, ℕ, List, map, Option}
use Rattle.std.specs.List.{All}
use Rattle.mf_check.specs.Families.{Code, IsCode}
use Rattle.mf_lines.specs.declared.parts.FileLine.{FileLine}
use Rattle.mf_lines.specs.declared.parts.Item.{Item}
use Rattle.mf_lines.specs.declared.forms.Form.{Form}
use Rattle.mf_lines.specs.Meaning.{Block, Script, so_of}
use Rattle.mf_script.specs.declared.script.NamedFamily.{NamedFamily}
use Rattle.mf_script.specs.Texts.{HasForms}

-- what is said of a family
abbrev pub block_of : NamedFamily → Block
block_of named = record { name = named.name; points = named.family.points; stages = named.family.shape.stages }

-- what a script says whose parts are these
abbrev pub script_with : ℕ → ℕ → List NamedFamily → Option (List ℕ) → List FileLine → List ℕ → List Item → List ℕ
    → Script
script_with servers chunk families policy files file_families items dumps =
    record {
      servers = servers;
      chunk = chunk;
      families = map block_of families;
      policy = policy;
      files = files;
      file_families = file_families;
      items = items;
      dumps = dumps;
    }

-- a family of a script: its stages, over the script's servers, and its points
abbrev pub code_of : Script → Block → Code
code_of s block = record { shape = record { stages = block.stages; servers = s.servers }; points = block.points }

-- The text is this script: no line has a fault, the script is what the lines say, and each of its families is accepted.
pub record IsScript (text : List ℕ) (s : Script) : Type 0 where
  pub forms : List Form
  pub lines : HasForms text forms
  pub says : s ≡ (so_of forms).script
  pub families : All (λ block. IsCode (code_of s block)) s.families
