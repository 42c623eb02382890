-- How a call ends, from what it read and wrote.
use Rattle.std.proofs.Common.{◌≡◌, ℕ, ◌+◌, ◌<◌, ◌≤◌, ◌⊎◌, inl, inr, List, [], ◌++◌, length, take, Option, None}
use Rattle.std.proofs.Common.{Some, IfSome, Bool}
use Rattle.std.proofs.Common.{◌≢◌, cond, if◌then◌else◌, sym, ap, ◌∙◌, subst, refl, arith, length-append, append-nil}
use Rattle.std.specs.Io.KnownBytes.{Appends, Consumes, IsAtEnd}
use Rattle.mf_io.specs.Faults.{HasRisen}
use Rattle.std.specs.List.{list_any}
use Rattle.std.proofs.lemmas.Bool.{cases_Bool, cond-true, cond-false}
use Rattle.mf_lines.specs.declared.parts.Kind.TheVariants as kind
use Rattle.mf_lines.specs.declared.parts.ScriptFault.{ScriptFault}
use Rattle.mf_lines.specs.Meaning.{Script}
use Rattle.mf_script.specs.Faults.{IsScriptFault}
use Rattle.mf_script.specs.Scripts.{IsScript}
use Rattle.mf_plain.specs.Resting.{Resting}
use Rattle.mf_client.specs.declared.done.Done.{Done}
use Rattle.mf_client.specs.Lacks.{lacks_memory}
use Rattle.mf_report.specs.Json.{written_text}
use Rattle.mf_report.specs.Verdicts.{accepted_text, refused_text, too_long}
use Rattle.mf_report.specs.Writing.{Leaves}
use Rattle.mf_report.specs.declared.writing.ReportFault.TheVariants as fault
use Rattle.mf_top.specs.Answers.{task_words, IsRun, IsAnswer, reported, lacked, accepted, refused}
use Rattle.mf_top.specs.declared.Task.{Task}
use Rattle.mf_top.specs.declared.Task.TheVariants.{Run, Check}
use Rattle.mf_top.specs.Writes.{Output, WritesWhole, WritesFront, Writes}
use Rattle.mf_top.specs.Ends.{Call, Answers, Ends}
use Rattle.mf_top.specs.declared.Status.{Status}
use Rattle.mf_top.specs.declared.Status.TheVariants as ended
use Rattle.mf_top.specs.declared.Status.TheVariants.{Refused, Words, SourceFault, SinkFault, Memory}

-- what writing an answer said
abbrev pub Written : Output → Status → Status → List ℕ → Type 0
Written o whole result bytes =
    ((result ≡ whole) × Appends o.written o.written_now bytes × (o.faults_now ≡ o.faults))
    ⊎ ((result ≡ SinkFault) × HasRisen o.faults o.faults_now × (n : ℕ) × (n ≤ length bytes)
    × Appends o.written o.written_now (take n bytes))

-- an answer that was to be written was written whole, or a front of it was
pub written : (o : Output) (words : List (List ℕ)) (text bytes : List ℕ) (whole result : Status) (status : ℕ)
    → IsAnswer words text status bytes → (WritesWhole o words text status → Writes o words text whole)
    → Written o whole result bytes → Writes o words text result
written o words text bytes whole result status answer make (inl w) =
    subst (Writes o words text) (sym w.0) (make (record { bytes = bytes; answer = answer; written = w.1; held = w.2 }))
written o words text bytes whole result status answer make (inr w) =
    subst (Writes o words text) (sym w.0)
    (record { status = status; bytes = bytes; count = w.2; answer = answer; within = w.3; written = w.4; failed = w.1 })

-- a text that was answered
pub answered : (c : Call) (status : Status) → Answers c status → Ends c status
answered c ended.Done a = a
answered c Refused a = a
answered c Words a = a
answered c SourceFault a = absurd a.writes
answered c SinkFault a = a
answered c Memory a = inl a

-- some text is what a source has left, as far as it tells
pub some_input : (left : Option (List ℕ)) → (text : List ℕ) × IfSome left (λ bytes. text ≡ bytes)
some_input None = ([], tt)
some_input (Some bytes) = (bytes, refl)

-- a text that was read to its end is what the source had left
pub whole_input : (left now : Option (List ℕ)) (text : List ℕ) → Consumes left now text → IsAtEnd now
    → IfSome left (λ bytes. text ≡ bytes)
whole_input None now text e end = tt
whole_input (Some x) None text e end = absurd e
whole_input (Some x) (Some y) text e end = sym (e ∙ ap (λ l. text ++ l) end ∙ append-nil text)

-- a text of which more than the limit was read is longer than the limit
pub long_input : (left now : Option (List ℕ)) (limit : ℕ) (read : List ℕ) → Consumes left now read
    → length read ≡ limit + 1 → (text : List ℕ) × IfSome left (λ bytes. text ≡ bytes) × (limit < length text)
long_input None now limit read e n = (read, tt, omega arith)
long_input (Some x) None limit read e n = absurd e
long_input (Some x) (Some y) limit read e n = (x, refl, omega (arith, ap length e, length-append read y))

-- ---- the report of a run

report_answer : (json : Bool) (text : List ℕ) (s : Script) (done : List Done) (files : List Resting)
    → IsRun text s done files
    → (status : ℕ) × IsAnswer (task_words (Run json)) text status (written_text json s done files)
report_answer json text s done files run =
    elim (cases_Bool (list_any lacks_memory done)) [
      | inl lacks ↦ (5, lacked json s done files run lacks)
      | inr fine ↦ (0, reported json s done files run fine)
    ]

-- it was written whole
pub ran : (json : Bool) (o : Output) (text : List ℕ) (s : Script) (done mine yours : List Done)
    (files theirs : List Resting)
    (status : Status)
    → IsRun text s done files → mine ≡ done → theirs ≡ files → yours ≡ done
    → Appends o.written o.written_now (written_text json s mine theirs)
    → o.faults_now ≡ o.faults
    → status ≡ (if list_any lacks_memory yours then Memory else ended.Done)
    → Writes o (task_words (Run json)) text status
ran json o text s done mine yours files theirs status run first rests second appended held is =
    let app : Appends o.written o.written_now (written_text json s done files) =
    subst (Appends o.written o.written_now) (λ i. written_text json s (first i) (rests i)) appended in
    elim (cases_Bool (list_any lacks_memory done)) [
      | inl lacks ↦
          let at : status ≡ Memory =
          is ∙ ap (λ d. cond (list_any lacks_memory d) Memory ended.Done) second ∙ cond-true _ _ _ lacks in
          subst (Writes o (task_words (Run json)) text) (sym at) (inr (record {
            bytes = written_text json s done files;
            answer = lacked json s done files run lacks;
            written = app;
            held = held;
          }))
      | inr fine ↦
          let at : status ≡ ended.Done =
          is ∙ ap (λ d. cond (list_any lacks_memory d) Memory ended.Done) second ∙ cond-false _ _ _ fine in
          subst (Writes o (task_words (Run json)) text) (sym at) (record {
            bytes = written_text json s done files;
            answer = reported json s done files run fine;
            written = app;
            held = held;
          })
    ]

-- a write of it failed
pub ran_front : (json : Bool) (o : Output) (text : List ℕ) (s : Script) (done mine : List Done)
    (files theirs : List Resting)
    → IsRun text s done files → mine ≡ done → theirs ≡ files
    → Leaves fault.Sink (written_text json s mine theirs) o.written o.written_now o.faults o.faults_now
    → WritesFront o (task_words (Run json)) text
ran_front json o text s done mine files theirs run first rests left =
    let w = subst (λ t. Leaves fault.Sink t o.written o.written_now o.faults o.faults_now)
    (λ i. written_text json s (first i) (rests i)) left in
    let answer = report_answer json text s done files run in
    record {
      status = answer.0;
      bytes = written_text json s done files;
      count = w.1;
      answer = answer.1;
      within = w.2;
      written = w.3;
      failed = w.0;
    }

-- ---- the answers to a check, and to a text that is no script

pub accepted_read : (text answer : List ℕ) (s : Script) → IsScript text s → answer ≡ accepted_text s.families
    → IsAnswer (task_words Check) text 0 answer
accepted_read text answer s is e = subst (IsAnswer (task_words Check) text 0) (sym e) (accepted s is)

pub refused_read : (task : Task) (text answer : List ℕ) (f : ScriptFault) → IsScriptFault text f
    → f.kind ≢ kind.Memory → answer ≡ refused_text f → IsAnswer (task_words task) text 1 answer
refused_read task text answer f has other e =
    subst (IsAnswer (task_words task) text 1) (sym e)
    (refused task f (record { fault_of_text = has; not_memory = other }))

pub long_refused : (task : Task) (text : List ℕ) → 1048576 < length text
    → IsAnswer (task_words task) text 1 (refused_text too_long)
long_refused task text long =
    refused task too_long (record {
      fault_of_text = inr (inl (inl (record { long = long; number = refl; is = refl })));
      not_memory = λ e. cc;
    })
