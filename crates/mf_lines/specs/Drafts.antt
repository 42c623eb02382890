-- What the code has of the lines so far.
use Rattle.std.specs.Prelude.{◌≡◌, ◌≤◌, ◌^◌, ℕ, false, List, [], ◌∷◌, map, length, Vec, Ok, codes}
use Rattle.std.specs.Global.{Global}
use Rattle.mf_lines.specs.declared.draft.Draft.{Draft}
use Rattle.mf_lines.specs.declared.forms.Form.{Form}
use Rattle.mf_lines.specs.declared.forms.Form.TheVariants as says
use Rattle.mf_lines.specs.Meaning.{Script, SoFar, names_in, with_line}
use Rattle.mf_lines.specs.Lines.{has_name, form_at}

-- the bytes of these names
abbrev pub names_of : List (Vec ℕ Global) → List (List ℕ)
names_of names = map (λ name. name.items) names

-- what they say
abbrev pub script_in : Draft → Script
script_in draft =
    record {
      servers = draft.servers;
      chunk = draft.chunk;
      families = record { name = codes "main"; points = draft.points; stages = draft.stages.items } ∷ [];
      policy = draft.policy;
      files = draft.files.items;
      file_families = draft.file_families.items;
      items = draft.items.items;
      dumps = draft.dumps.items;
    }

-- what they add up to
abbrev pub so_in : Draft → SoFar
so_in draft =
    record {
      lines = draft.lines;
      last = draft.last;
      stage_line = draft.stage_line;
      phases = draft.phases;
      clients = draft.clients;
      commands = draft.commands;
      script = script_in draft;
    }

-- what a draft keeps: the names that it looks up are those of its files, there are not more stages, files, phases,
-- clients and commands than lines, and there is room for these
pub record IsDraft (draft : Draft) : Type 0 where
  pub names : names_of draft.names.keys ≡ names_in draft.files.items
  pub stages : length draft.stages.items ≤ draft.lines
  pub files : length draft.files.items ≤ draft.lines
  pub phases : draft.phases ≤ draft.lines
  pub clients : draft.clients ≤ draft.lines
  pub commands : draft.commands ≤ draft.lines
  pub lines : draft.lines ≤ 2 ^ 31

-- a file line has a name that no earlier one has
abbrev pub IsNew : Draft → Form → Type 0
IsNew draft (says.File file) = has_name (names_in draft.files.items) file.name ≡ false
IsNew draft form = Unit {0}

-- a line that has a form was added
pub record Adds (old new : SoFar) (line : List ℕ) : Type 0 where
  pub form : Form
  pub said : form_at old line ≡ Ok form
  pub so : new ≡ with_line old form
