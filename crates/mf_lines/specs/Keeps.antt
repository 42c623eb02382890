-- What an accepted line keeps.
use Rattle.std.specs.Prelude.{◌≡◌, ◌<◌, ◌≤◌, ℕ, true, List, length, Option, is_some, Ok}
use Rattle.std.specs.Int.{div_ceil}
use Rattle.mf_lines.specs.declared.parts.Content.{Content}
use Rattle.mf_lines.specs.declared.parts.FileLine.{FileLine}
use Rattle.mf_lines.specs.declared.parts.Act.{Act}
use Rattle.mf_lines.specs.declared.parts.Act.TheVariants as act
use Rattle.mf_lines.specs.declared.forms.Form.{Form}
use Rattle.mf_lines.specs.declared.forms.Form.TheVariants as says
use Rattle.mf_lines.specs.Meaning.{SoFar, main_of}
use Rattle.mf_lines.specs.Lines.{content_length, form_at}

-- a file in chunks of this size: at most 1,048,576 bytes, in at most 1,024 chunks
pub record FileFits (chunk : ℕ) (content : Content) : Type 0 where
  pub short : content_length content ≤ 1048576
  pub cut : div_ceil (content_length content) chunk ≤ 1024

-- a file line stands behind fewer than 64 others, and its file fits the chunk size, where there is one
pub record NewFile (so : SoFar) (file : FileLine) : Type 0 where
  pub few : length so.script.files < 64
  pub fits : 1 ≤ so.script.chunk → FileFits so.script.chunk file.content

-- a sweep has a policy
abbrev pub IsPolicied : Option (List ℕ) → Act → Type 0
IsPolicied policy act.Sweep = is_some policy ≡ true
IsPolicied policy any_other = Unit {0}

-- A chunk size is from 1 to 65,536, a policy has as many thresholds as there are stages, a file fits, a tick is at most
-- a billion; a phase stands behind fewer than 64, a client behind fewer than 8, a command behind fewer than 1,024, and a
-- sweep behind a policy.
abbrev pub Keeps : SoFar → Form → Type 0
Keeps so (says.Chunk size) = (1 ≤ size) × (size ≤ 65536)
Keeps so (says.Policy thresholds) = length thresholds ≡ length (main_of so.script).stages
Keeps so (says.File file) = NewFile so file
Keeps so (says.Tick ticks) = ticks ≤ 1000000000
Keeps so says.Phase = so.phases < 64
Keeps so says.Client = so.clients < 8
Keeps so (says.Command act) = (so.commands < 1024) × IsPolicied so.script.policy act
Keeps so form = Unit {0}

-- Each line that has a form keeps this.
abbrev pub LinesKeep : Type 0
LinesKeep = (so : SoFar) (line : List ℕ) (form : Form) → form_at so line ≡ Ok form → Keeps so form
