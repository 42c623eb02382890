-- A client of a script, and the files that it finds.
use Rattle.std.specs.Prelude.{◌≡◌, ℕ, ◌-◌, ◌≤◌, List, [], length, map, slice_get, slice_index_or, Some}
use Rattle.mf_lines.specs.declared.parts.Command.{Command}
use Rattle.mf_lines.specs.declared.parts.FileLine.{FileLine}
use Rattle.mf_lines.specs.Meaning.{Script, phases_in}
use Rattle.mf_script.specs.Contents.{bytes_in}
use Rattle.mf_script.specs.Families.{file_code}
use Rattle.mf_script.specs.Losses.{losses_of}
use Rattle.mf_script.specs.Phases.{clients_of}
use Rattle.mf_vault.specs.Facts.{Facts}
use Rattle.mf_vault.specs.Actor.{Actor}
use Rattle.mf_vault.specs.Conditions.{IsOfFamily}

-- the commands of a client of a phase; clients are numbered from 1
abbrev pub commands_of : Script → (phase client : ℕ) → List Command
commands_of s phase client = (slice_index_or (clients_of s phase) (client - 1) (record { commands = [] })).commands

-- the script has this client
pub record HasClient (s : Script) (phase client : ℕ) : Type 0 where
  pub phases : (1 ≤ phase) × (phase ≤ length (phases_in s.items))
  pub clients : (1 ≤ client) × (client ≤ length (clients_of s phase))

-- in this phase the script's file of this number and this line has these facts: the shape and the points of its family,
-- the chunk size, the number, the bytes, and the lose lines up to the end of the phase
pub record IsFileOf (s : Script) (phase number : ℕ) (line : FileLine) (f : Facts) : Type 0 where
  pub family : IsOfFamily (file_code s number).shape (file_code s number).points f.book
  pub chunk : f.book.chunk ≡ s.chunk
  pub file : f.book.file ≡ number
  pub bytes : f.bytes ≡ bytes_in line.content
  pub losses : f.losses ≡ losses_of s phase

-- these are the facts of all files of the script, in order
pub record AreFiles (s : Script) (phase : ℕ) (files : List Facts) : Type 0 where
  pub count : length files ≡ length s.files
  pub each : (n : ℕ) (line : FileLine) (f : Facts) → slice_get s.files n ≡ Some line → slice_get files n ≡ Some f
      → IsFileOf s phase n line f

-- the facts of these actors' files
abbrev pub facts_in : List Actor → List Facts
facts_in actors = map (λ (a : Actor). a.facts) actors
