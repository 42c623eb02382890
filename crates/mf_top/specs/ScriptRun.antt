-- *Licensed report*: what the phases of a script do, one after the other, each by one client or by several.
use Rattle.std.specs.Prelude.{◌≡◌, ℕ, zero, suc, ◌+◌, List, [], ◌∷◌, ◌++◌, length, slice_get, Some}
use Rattle.mf_lines.specs.declared.parts.FileLine.{FileLine}
use Rattle.mf_lines.specs.Meaning.{Script, phases_in}
use Rattle.mf_script.specs.Contents.{bytes_in}
use Rattle.mf_script.specs.Phases.{ticks_before}
use Rattle.mf_plain.specs.Resting.{Resting, AtRest, unborn}
use Rattle.mf_client.specs.declared.done.Done.{Done}
use Rattle.mf_crew.specs.Files.{book_of}
use Rattle.mf_crew.specs.Live.{IsPhase}

-- ---- the files before the first phase

-- the script's file of this number and this line, not created
abbrev pub new_file : Script → ℕ → FileLine → Resting
new_file s n line = unborn (book_of s n line) (bytes_in line.content)

-- the files of these lines, of which the first has this number
abbrev pub new_from : Script → ℕ → List FileLine → List Resting
new_from s n [] = []
new_from s n (line ∷ lines) = new_file s n line ∷ new_from s (n + 1) lines

-- all files of the script
abbrev pub new_files : Script → List Resting
new_files s = new_from s 0 s.files

-- ---- the script's files at rest, whatever became of them

-- the script's file of this number and this line, at rest: with what its book lays out, and the bytes of its line
pub record IsOfLine (s : Script) (n : ℕ) (line : FileLine) (r : Resting) : Type 0 where
  pub rest : AtRest r
  pub book : r.book ≡ book_of s n line
  pub bytes : r.bytes ≡ bytes_in line.content

-- all files of the script, each at rest
pub record AreOfLines (s : Script) (files : List Resting) : Type 0 where
  pub count : length files ≡ length s.files
  pub each : (n : ℕ) (line : FileLine) (r : Resting) → slice_get s.files n ≡ Some line → slice_get files n ≡ Some r
      → IsOfLine s n line r

-- ---- all phases

-- the first n phases led from the script's new files to these at rest, and their commands were done so
abbrev pub RunsTo : Script → (n : ℕ) → List Done → List Resting → Type 0
RunsTo s zero done files = (done ≡ []) × (files ≡ new_files s)
RunsTo s (suc n) done files =
    (before last : List Done) × (mid : List Resting) × RunsTo s n before mid
    × IsPhase s (suc n) (ticks_before s (suc n)) mid last files × (done ≡ before ++ last)

-- the commands of all phases were done so, and these files are left
abbrev pub IsScriptRun : Script → List Done → List Resting → Type 0
IsScriptRun s done files = RunsTo s (length (phases_in s.items)) done files
