-- Laws of what the program answers, and of how a call ends.
use Rattle.std.specs.Prelude.{◌≡◌, ◌≢◌, ℕ, ◌<◌, ◌^◌, ◌⊎◌, Bool, List, ◌++◌, codes, length, slice_get, slice_index_or}
use Rattle.std.specs.Prelude.{Some}
use Rattle.sha2.specs.Sha256.{sha256}
use Rattle.mf_text.specs.Hex.{hex_text}
use Rattle.mf_io.specs.Faults.{HasRisen}
use Rattle.mf_places.specs.Facts.{BookFacts}
use Rattle.mf_places.specs.Names.{count_of, name_at}
use Rattle.mf_places.specs.Texts.{name_text}
use Rattle.mf_vault.specs.Texts.{io_text}
use Rattle.mf_places.specs.Placement.{server_of}
use Rattle.mf_places.specs.Servers.{no_servers}
use Rattle.mf_lines.specs.declared.parts.Act.TheVariants as act
use Rattle.mf_lines.specs.declared.parts.FileLine.{FileLine}
use Rattle.mf_lines.specs.declared.parts.ScriptFault.{ScriptFault}
use Rattle.mf_lines.specs.Meaning.{Script}
use Rattle.mf_script.specs.Contents.{bytes_in}
use Rattle.mf_script.specs.Laws.{bare}
use Rattle.mf_script.specs.Phases.{clients_of}
use Rattle.mf_script.specs.Scripts.{IsScript}
use Rattle.mf_vault.specs.declared.answers.Rest.TheVariants as rest
use Rattle.mf_vault.specs.declared.io.Io.{Io}
use Rattle.mf_vault.specs.Facts.{cell}
use Rattle.mf_vault.specs.Actor.{Actor}
use Rattle.mf_plain.specs.Resting.{Resting}
use Rattle.mf_read.specs.declared.outcome.ReadOutcome.TheVariants as read
use Rattle.mf_read.specs.Reading.{bears}
use Rattle.mf_client.specs.declared.done.Done.{Done}
use Rattle.mf_client.specs.declared.done.Outcome.{Outcome}
use Rattle.mf_client.specs.declared.done.Outcome.TheVariants as outcome
use Rattle.mf_client.specs.declared.done.Place.{Place}
use Rattle.mf_client.specs.Runs.{IsDone}
use Rattle.mf_report.specs.Lines.{spaced}
use Rattle.mf_report.specs.Dumps.{chunk_text}
use Rattle.mf_report.specs.Report.{took, conversions}
use Rattle.mf_report.specs.Verdicts.{refused_text}
use Rattle.mf_crew.specs.Files.{HasPhase, book_of}
use Rattle.mf_top.specs.Answers.{task_words, seed_words, AsksNoSeed, IsRun, IsAnswer}
use Rattle.mf_top.specs.Ends.{Call, Ends}
use Rattle.mf_top.specs.declared.Task.TheVariants.{Run, Check}
use Rattle.mf_top.specs.declared.Status.{Status}
use Rattle.mf_top.specs.declared.Status.TheVariants as ended

-- Both are the lines of one fault. Nothing is said of the kernel list of a set of places that isn't decodable.
pub record RefusesAlike (x y : List ℕ) : Type 0 where
  pub one : ScriptFault
  pub other : ScriptFault
  pub first : x ≡ refused_text one
  pub second : y ≡ refused_text other
  pub line : one.line ≡ other.line
  pub kind : bare one.kind ≡ bare other.kind

-- each phase of the script has one client
abbrev pub IsPlain : Script → Type 0
IsPlain s = (phase : ℕ) → HasPhase s phase → length (clients_of s phase) ≡ 1

-- Words that ask for no seed, and a text, have one status and one answer, where no command lacks memory, and no phase
-- has several clients.
abbrev pub OneAnswer : Type 0
OneAnswer = (words : List (List ℕ)) (text : List ℕ) (m n : ℕ) (x y : List ℕ) → AsksNoSeed words
    → ((s : Script) → IsScript text s → IsPlain s) → IsAnswer words text m x → IsAnswer words text n y → m ≢ 5
    → n ≢ 5 → (m ≡ n) × ((x ≡ y) ⊎ RefusesAlike x y)

-- no read of the call failed, and no write
pub record NothingFailed (c : Call) : Type 0 where
  pub reads : HasRisen c.faults c.faults_now → ⊥
  pub writes : HasRisen c.output.faults c.output.faults_now → ⊥

-- Where nothing failed, a call that runs a script ends with 0 or 5, and one that tries a family with 0, 1 or 5. A call
-- with a seed ends with 0 or 5 where no write failed.
pub record Completes : Type 0 where
  pub run : (json : Bool) (c : Call) (status : Status) (text : List ℕ) (s : Script) → Ends c status
      → c.words ≡ task_words (Run json) → c.left ≡ Some text → IsScript text s → NothingFailed c
      → (status ≡ ended.Done) ⊎ (status ≡ ended.Memory)
  pub check : (c : Call) (status : Status) → Ends c status → c.words ≡ task_words Check → NothingFailed c
      → (status ≡ ended.Done) ⊎ ((status ≡ ended.Refused) ⊎ (status ≡ ended.Memory))
  pub seed : (n : ℕ) (c : Call) (status : Status) → n < 2 ^ 64 → Ends c status → c.words ≡ seed_words n
      → (HasRisen c.output.faults c.output.faults_now → ⊥) → (status ≡ ended.Done) ⊎ (status ≡ ended.Memory)

-- What a command that reads and names no server may answer: the bytes; that the file isn't there; want of memory; or
-- more names of one stripe lost than the generation bears.
abbrev pub IsServed : BookFacts → Outcome → Type 0
IsServed b (outcome.Bytes g count from digest) = Unit {0}
IsServed b (outcome.Refused read.Absent) = Unit {0}
IsServed b (outcome.Refused read.Removed) = Unit {0}
IsServed b (outcome.Refused read.Memory) = Unit {0}
IsServed b (outcome.Refused (read.DataLost g stripe lost)) = bears b g < length lost
IsServed b other = ⊥

-- So does each read of a client that names no server.
abbrev pub ReadsAreServed : Type 0
ReadsAreServed = (s : Script) (at : Place) (line file : ℕ) (done : Done) (before after : List Actor)
    → IsDone s at (record { line = line; act = act.Read file no_servers }) done before after
    → (a : Actor) × (slice_get before file ≡ Some a) × IsServed a.facts.book done.outcome

-- The line of name number n of a file with this book and these bytes, where it has the digest of the name's cell: of
-- the chunk that the plain encoding of the bytes gives it.
abbrev pub cell_text : BookFacts → List ℕ → ℕ → List ℕ
cell_text b bytes n =
    codes "chunk " ++ name_text (name_at b n) ++ codes " server" ++ spaced (server_of b (name_at b n)) ++ codes " "
    ++ (codes "here " ++ hex_text (sha256 (cell b bytes (name_at b n))))

-- In each report of a run: of the script's file of any line, a dump's line of a name whose chunk is here has the digest
-- of the name's cell.
abbrev pub DigestsAreOfCells : Type 0
DigestsAreOfCells = (text : List ℕ) (s : Script) (done : List Done) (files : List Resting) → IsRun text s done files
    → (number : ℕ) (line : FileLine) (r : Resting) → slice_get s.files number ≡ Some line
    → slice_get files number ≡ Some r → (n : ℕ) → n < count_of (book_of s number line) → (bytes : List ℕ)
    → slice_index_or r.names n rest.Unborn ≡ rest.Here bytes
    → chunk_text r n ≡ cell_text (book_of s number line) (bytes_in line.content) n

-- no data and no copy was read, and so the text of the operations begins with two zeros
pub record ReadsNoData (io : Io) : Type 0 where
  pub pieces : io.pieces ≡ 0
  pub copies : io.copies ≡ 0
  pub text : (others : List ℕ) × (io_text io ≡ codes "io 0 0" ++ others)

-- In each report of a run the conversions, taken together, read no data and no copy.
abbrev pub ConversionsReadNoData : Type 0
ConversionsReadNoData = (text : List ℕ) (s : Script) (done : List Done) (files : List Resting)
    → IsRun text s done files → ReadsNoData (took (conversions done))
