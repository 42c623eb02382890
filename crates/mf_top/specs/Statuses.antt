-- With which status a call ends, both ways.
use Rattle.std.specs.Prelude.{◌≡◌, ◌≢◌, ◌⊎◌, ℕ, List, Some}
use Rattle.mf_io.specs.Faults.{HasRisen}
use Rattle.mf_lines.specs.Meaning.{Script}
use Rattle.mf_script.specs.Scripts.{IsScript}
use Rattle.mf_top.specs.Answers.{task_words, AsksNothing}
use Rattle.mf_top.specs.Ends.{Call, IsInput, Ends}
use Rattle.mf_top.specs.Laws.{NothingFailed}
use Rattle.mf_top.specs.declared.Status.{Status}
use Rattle.mf_top.specs.declared.Status.TheVariants as ended
use Rattle.mf_top.specs.declared.Task.{Task}

-- no text of a script
abbrev pub IsNoScript : List ℕ → Type 0
IsNoScript text = (s : Script) → IsScript text s → ⊥

-- The statuses 1 to 4, both ways. Where words ask for a script, nothing failed, and the text is none, a call ends with
-- 1 or 5, and with 1 only where the text is none. With words that ask for nothing, and no write that failed, it ends
-- with 2 or 5, and with 2 only with such words. With a read that failed it ends with 3, and with 3 only so; with a write
-- that failed it ends with 4, and with 4 only so.
pub record StatusesTell : Type 0 where
  pub refused : (task : Task) (c : Call) (status : Status) (text : List ℕ) → Ends c status
      → c.words ≡ task_words task → c.left ≡ Some text → IsNoScript text → NothingFailed c
      → (status ≡ ended.Refused) ⊎ (status ≡ ended.Memory)
  pub refused_so : (c : Call) → Ends c ended.Refused
      → ((task : Task) × (c.words ≡ task_words task)) × ((text : List ℕ) × IsInput c text × IsNoScript text)
  pub words : (c : Call) (status : Status) → Ends c status → AsksNothing c.words
      → (HasRisen c.output.faults c.output.faults_now → ⊥) → (status ≡ ended.Words) ⊎ (status ≡ ended.Memory)
  pub words_so : (c : Call) → Ends c ended.Words → AsksNothing c.words
  pub read_failed : (c : Call) (status : Status) → Ends c status → c.faults_now ≢ c.faults
      → status ≡ ended.SourceFault
  pub read_failed_so : (c : Call) → Ends c ended.SourceFault → HasRisen c.faults c.faults_now
  pub write_failed : (c : Call) (status : Status) → Ends c status → c.output.faults_now ≢ c.output.faults
      → status ≡ ended.SinkFault
  pub write_failed_so : (c : Call) → Ends c ended.SinkFault → HasRisen c.output.faults c.output.faults_now
