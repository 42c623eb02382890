-- The files that a phase finds and leaves.
use Rattle.std.specs.Prelude.{◌≡◌, ℕ, ◌≤◌, List, length, take, slice_get, Option, Some}
use Rattle.std.specs.Option.{option_map}
use Rattle.mf_places.specs.Facts.{BookFacts}
use Rattle.mf_lines.specs.declared.parts.FileLine.{FileLine}
use Rattle.mf_lines.specs.Meaning.{Script, phases_in}
use Rattle.mf_script.specs.Contents.{bytes_in}
use Rattle.mf_script.specs.Families.{file_code}
use Rattle.mf_script.specs.Losses.{losses_of}
use Rattle.mf_vault.specs.Actor.{Actor}
use Rattle.mf_plain.specs.Resting.{Resting}
use Rattle.mf_plain.specs.Alone.{rested}

-- the script has this phase; phases are numbered from 1
abbrev pub HasPhase : Script → (phase : ℕ) → Type 0
HasPhase s phase = (1 ≤ phase) × (phase ≤ length (phases_in s.items))

-- what the book lays out of the script's file of this number and this line, by the code of its family
abbrev pub book_of : Script → ℕ → FileLine → BookFacts
book_of s n line = record {
  shape = (file_code s n).shape;
  points = (file_code s n).points;
  chunk = s.chunk;
  file = n;
  bytes = length (bytes_in line.content);
}

-- The script's file of this number and this line, as it may rest before this phase or behind it: with what its book
-- lays out, and the bytes of its line; its lose lines are the first ones of those up to the end of the phase; and it
-- was created `now` or before.
pub record RestsBy (s : Script) (phase now n : ℕ) (line : FileLine) (r : Resting) : Type 0 where
  pub book : r.book ≡ book_of s n line
  pub bytes : r.bytes ≡ bytes_in line.content
  pub losses : take (length r.losses) (losses_of s phase) ≡ r.losses
  pub born : r.born ≤ now

-- all files of the script, in order
pub record AllRestBy (s : Script) (phase now : ℕ) (files : List Resting) : Type 0 where
  pub count : length files ≡ length s.files
  pub each : (n : ℕ) (line : FileLine) (r : Resting) → slice_get s.files n ≡ Some line → slice_get files n ≡ Some r
      → RestsBy s phase now n line r

-- the file at rest that is left of what an actor tells
abbrev pub left_by : Actor → Option Resting
left_by a = option_map (rested a.facts) a.whole
