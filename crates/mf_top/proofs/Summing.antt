-- The answers to a seed.
use Rattle.std.proofs.Common.{◌≡◌, ℕ, ◌<◌, ◌^◌, inl, inr, List, true, false, if◌then◌else◌, sym, ◌∙◌, subst}
use Rattle.std.specs.List.{list_any}
use Rattle.std.proofs.lemmas.Bool.{cases_Bool, cond-true, cond-false}
use Rattle.mf_lines.specs.Meaning.{Script}
use Rattle.mf_script.specs.Scripts.{IsScript}
use Rattle.mf_script.specs.Seeds.{seed_text}
use Rattle.mf_plain.specs.Resting.{Resting}
use Rattle.mf_client.specs.declared.done.Done.{Done}
use Rattle.mf_client.specs.Lacks.{lacks_memory}
use Rattle.mf_report.specs.Report.{report_text}
use Rattle.mf_report.specs.Summary.{summary_text}
use Rattle.mf_top.specs.ScriptRun.{AreOfLines, IsScriptRun}
use Rattle.mf_top.specs.Answers.{task_words, seed_words, IsRun, IsAnswer, summed, sum_lacked}
use Rattle.mf_top.specs.Writes.{Output, Writes}
use Rattle.mf_top.specs.declared.Task.{Task}
use Rattle.mf_top.specs.declared.Task.TheVariants.{Run, Check}
use Rattle.mf_top.specs.declared.Status.{Status}
use Rattle.mf_top.specs.declared.Status.TheVariants as ended
use Rattle.mf_top.proofs.Ending.{Written, written}

-- the words of a seed are those of no task
pub no_task : (n : ℕ) (task : Task) → seed_words n ≡ task_words task → ⊥
no_task n (Run true) e = cc
no_task n (Run false) e = cc
no_task n Check e = cc

-- what is known of a run, where its commands and files are borrowed
pub run_of : (n : ℕ) (s : Script) (done mine : List Done) (files theirs : List Resting) → IsScript (seed_text n) s
    → IsScriptRun s done files → AreOfLines s files → mine ≡ done → theirs ≡ files → IsRun (seed_text n) s mine theirs
run_of n s done mine files theirs is run left first rests =
    let whole : IsRun (seed_text n) s done files = record { script = is; run = run; left = left } in
    subst (λ fs. IsRun (seed_text n) s mine fs) (sym rests)
    (subst (λ ds. IsRun (seed_text n) s ds files) (sym first) whole)

-- the line that sums up a run was written whole, or a front of it
pub summed_up : (n : ℕ) (o : Output) (text : List ℕ) (s : Script) (done : List Done) (files : List Resting)
    (line borrowed : List ℕ) (whole result : Status) → n < 2 ^ 64 → IsRun (seed_text n) s done files → borrowed ≡ line
    → line ≡ summary_text n done (report_text s done files)
    → whole ≡ (if list_any lacks_memory done then ended.Memory else ended.Done) → Written o whole result borrowed
    → Writes o (seed_words n) text result
summed_up n o text s done files line borrowed whole result small run same told is wrote =
    let line_is : borrowed ≡ summary_text n done (report_text s done files) = same ∙ told in
    elim (cases_Bool (list_any lacks_memory done)) [
      | inl lacks ↦
          let at : whole ≡ ended.Memory = is ∙ cond-true _ _ _ lacks in
          written o (seed_words n) text borrowed ended.Memory result 5
          (subst (IsAnswer (seed_words n) text 5) (sym line_is) (sum_lacked n s done files small run lacks))
          (λ w. inr w) (subst (λ u. Written o u result borrowed) at wrote)
      | inr fine ↦
          let at : whole ≡ ended.Done = is ∙ cond-false _ _ _ fine in
          written o (seed_words n) text borrowed ended.Done result 0
          (subst (IsAnswer (seed_words n) text 0) (sym line_is) (summed n s done files small run fine))
          (λ w. w) (subst (λ u. Written o u result borrowed) at wrote)
    ]
