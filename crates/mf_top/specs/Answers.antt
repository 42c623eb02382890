-- What the program answers to its words, and to the text that its source has left.
use Rattle.std.specs.Prelude.{◌≡◌, ◌≢◌, ℕ, ◌^◌, ◌<◌, Bool, true, false, List, [], ◌∷◌, codes}
use Rattle.std.specs.List.{list_any}
use Rattle.mf_text.specs.Decimal.{decimal_text}
use Rattle.mf_lines.specs.declared.parts.Kind.TheVariants as kind
use Rattle.mf_lines.specs.declared.parts.ScriptFault.{ScriptFault}
use Rattle.mf_lines.specs.Meaning.{Script}
use Rattle.mf_script.specs.Faults.{IsScriptFault}
use Rattle.mf_script.specs.Scripts.{IsScript}
use Rattle.mf_script.specs.Seeds.{seed_text}
use Rattle.mf_plain.specs.Resting.{Resting}
use Rattle.mf_client.specs.declared.done.Done.{Done}
use Rattle.mf_client.specs.Lacks.{lacks_memory}
use Rattle.mf_report.specs.Json.{written_text}
use Rattle.mf_report.specs.Report.{report_text}
use Rattle.mf_report.specs.Summary.{summary_text}
use Rattle.mf_report.specs.Verdicts.{accepted_text, refused_text, words_refusal}
use Rattle.mf_top.specs.ScriptRun.{AreOfLines, IsScriptRun}
use Rattle.mf_top.specs.declared.Task.{Task}
use Rattle.mf_top.specs.declared.Task.TheVariants.{Run, Check}

-- the words that ask for a task
abbrev pub task_words : Task → List (List ℕ)
task_words (Run false) = codes "run" ∷ []
task_words (Run true) = codes "run" ∷ codes "--json" ∷ []
task_words Check = codes "check" ∷ []

-- the words ask for a task, and so for a text
abbrev pub AsksTask : List (List ℕ) → Type 0
AsksTask words = (task : Task) × (words ≡ task_words task)

-- the words ask for no task
abbrev pub AsksNoTask : List (List ℕ) → Type 0
AsksNoTask words = (task : Task) → words ≡ task_words task → ⊥

-- the words that ask for the run of a seed's script
abbrev pub seed_words : ℕ → List (List ℕ)
seed_words n = codes "seed" ∷ decimal_text n ∷ []

-- the words ask for no seed
abbrev pub AsksNoSeed : List (List ℕ) → Type 0
AsksNoSeed words = (n : ℕ) → n < 2 ^ 64 → words ≡ seed_words n → ⊥

-- the words ask for neither
abbrev pub AsksNothing : List (List ℕ) → Type 0
AsksNothing words = AsksNoTask words × AsksNoSeed words

-- The text is no script: it has this fault, which isn't want of memory.
pub record IsRefused (text : List ℕ) (fault : ScriptFault) : Type 0 where
  pub fault_of_text : IsScriptFault text fault
  pub not_memory : fault.kind ≢ kind.Memory

-- The text is this script, its phases did these commands, and these files are left, which are the script's, at rest.
pub record IsRun (text : List ℕ) (s : Script) (done : List Done) (files : List Resting) : Type 0 where
  pub script : IsScript text s
  pub run : IsScriptRun s done files
  pub left : AreOfLines s files

-- The status of an answer, and its bytes. With `run` a script has the report of its run, as lines or as JSON: with
-- status 0 where no command lacked memory, and with 5 where one did. With `check` it has the lines of its families.
-- Any other text has the line of its fault. With `seed` the script of the seed has the line that sums up its run, with
-- status 0 or 5 as with `run`, whatever the text is. Other words have the line that refuses them, whatever the text is.
pub data IsAnswer : List (List ℕ) → List ℕ → ℕ → List ℕ → Type 0 where
  reported : {text : List ℕ} (json : Bool) (s : Script) (done : List Done) (files : List Resting)
      → IsRun text s done files → list_any lacks_memory done ≡ false
      → IsAnswer (task_words (Run json)) text 0 (written_text json s done files)
  lacked : {text : List ℕ} (json : Bool) (s : Script) (done : List Done) (files : List Resting)
      → IsRun text s done files → list_any lacks_memory done ≡ true
      → IsAnswer (task_words (Run json)) text 5 (written_text json s done files)
  accepted : {text : List ℕ} (s : Script) → IsScript text s
      → IsAnswer (task_words Check) text 0 (accepted_text s.families)
  refused : {text : List ℕ} (task : Task) (fault : ScriptFault) → IsRefused text fault
      → IsAnswer (task_words task) text 1 (refused_text fault)
  summed : {text : List ℕ} (n : ℕ) (s : Script) (done : List Done) (files : List Resting) → n < 2 ^ 64
      → IsRun (seed_text n) s done files → list_any lacks_memory done ≡ false
      → IsAnswer (seed_words n) text 0 (summary_text n done (report_text s done files))
  sum_lacked : {text : List ℕ} (n : ℕ) (s : Script) (done : List Done) (files : List Resting) → n < 2 ^ 64
      → IsRun (seed_text n) s done files → list_any lacks_memory done ≡ true
      → IsAnswer (seed_words n) text 5 (summary_text n done (report_text s done files))
  no_words : {words : List (List ℕ)} {text : List ℕ} → AsksNothing words → IsAnswer words text 2 words_refusal
