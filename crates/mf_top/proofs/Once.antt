-- A script has one run, words and a text have one answer, and a call ends well where nothing fails.
use Rattle.std.proofs.Common.{◌≡◌, ◌≢◌, ℕ, zero, suc, ◌⊎◌, inl, inr, Bool, true, false, List, [], ◌∷◌, ◌++◌, map}
use Rattle.std.proofs.Common.{◌≤◌, length, Option, Some, All, refl, sym, ap, ◌∙◌, subst, arith}
use Rattle.std.specs.Prelude.{IfSome, ◌<◌, ◌^◌}
use Rattle.mf_io.specs.Faults.{HasRisen}
use Rattle.std.specs.List.{list_any}
use Rattle.std.proofs.lemmas.Bool.{or_parts}
use Rattle.std.proofs.lemmas.List.Elements.{All-nil, All-cons, All-head, All-tail, All-map, All-from_get_or}
use Rattle.mf_lines.specs.declared.parts.ScriptFault.{ScriptFault}
use Rattle.mf_lines.specs.Meaning.{Script, phases_in}
use Rattle.mf_script.specs.Losses.{losses_of}
use Rattle.mf_script.specs.Phases.{clients_of, ticks_before}
use Rattle.mf_script.specs.Scripts.{IsScript}
use Rattle.mf_script.specs.Faults.{IsFault, IsScriptFault}
use Rattle.mf_plain.specs.Resting.{Resting}
use Rattle.mf_plain.specs.Alone.{first_actor}
use Rattle.mf_client.specs.declared.done.Done.{Done}
use Rattle.mf_client.specs.Lacks.{lacks_memory}
use Rattle.mf_client.specs.Laws.{IsWhole, HadMemory}
use Rattle.mf_client.proofs.Once.{run_once}
use Rattle.mf_script.proofs.Exclusive.{one_answer as scripts_are}
use Rattle.mf_lines.specs.declared.parts.Content.TheVariants as given
use Rattle.mf_report.specs.Json.{written_text}
use Rattle.mf_report.specs.Verdicts.{accepted_text, refused_text, words_refusal}
use Rattle.mf_crew.specs.Files.{left_by}
use Rattle.mf_crew.specs.Alone.{first_actors, RunsPhase}
use Rattle.mf_crew.specs.Live.{IsPhase}
use Rattle.mf_top.specs.ScriptRun.{new_file, RunsTo, IsScriptRun}
use Rattle.mf_top.specs.Answers.{task_words, seed_words, AsksNoSeed, AsksNothing, IsRefused, IsRun, IsAnswer}
use Rattle.mf_top.specs.Answers.{reported, lacked, accepted, refused, summed, sum_lacked, no_words}
use Rattle.mf_top.specs.Ends.{Call, Ends}
use Rattle.mf_top.specs.Laws.{RefusesAlike, IsPlain, OneAnswer, NothingFailed, Completes}
use Rattle.mf_top.specs.Statuses.{IsNoScript, StatusesTell}
use Rattle.mf_top.specs.Writes.{Output, WritesWhole, WritesNothing}
use Rattle.mf_top.specs.declared.Task.{Task}
use Rattle.mf_top.specs.declared.Task.TheVariants.{Run, Check}
use Rattle.mf_top.proofs.Summing.{no_task}
use Rattle.mf_top.specs.declared.Status.{Status}
use Rattle.mf_top.specs.declared.Status.TheVariants as ended

-- ---- a script has one run

none_lacks : (done : List Done) → list_any lacks_memory done ≡ false → All HadMemory done
none_lacks [] e = All-nil HadMemory
none_lacks (d ∷ done) e =
    let parts = or_parts (lacks_memory d) (list_any lacks_memory done) e in
    All-cons HadMemory d done parts.0 (none_lacks done parts.1)

all_front : (P : Done → Type 0) (xs ys : List Done) → All P (xs ++ ys) → All P xs
all_front P [] ys h = All-nil P
all_front P (x ∷ xs) ys h = All-cons P x xs (All-head P x (xs ++ ys) h) (all_front P xs ys (All-tail P x (xs ++ ys) h))

all_behind : (P : Done → Type 0) (xs ys : List Done) → All P (xs ++ ys) → All P ys
all_behind P [] ys h = h
all_behind P (x ∷ xs) ys h = all_behind P xs ys (All-tail P x (xs ++ ys) h)

somes : (xs ys : List Resting) → map Some xs ≡ map Some ys → xs ≡ ys
somes [] [] e = refl
somes [] (y ∷ ys) e = absurd cc
somes (x ∷ xs) [] e = absurd cc
somes (x ∷ xs) (y ∷ ys) e =
    let both : (x ≡ y) × (map Some xs ≡ map Some ys) = heads x y (map Some xs) (map Some ys) e in
    (λ i. both.0 i ∷ somes xs ys both.1 i)
  where
    heads : (x y : Resting) (xs ys : List (Option Resting)) → Some x ∷ xs ≡ Some y ∷ ys → (x ≡ y) × (xs ≡ ys)
    heads x y xs ys e = (cc, cc)

first_whole : (s : Script) (p now : ℕ) (files : List Resting) → All IsWhole (first_actors s p now files)
first_whole s p now files =
    All-map IsWhole (λ r. first_actor r now (losses_of s p)) files
    (All-from_get_or (λ r. IsWhole (first_actor r now (losses_of s p))) files (no_file tt) (λ i within. (_, refl)))
  where
    no_file : Unit {0} → Resting
    no_file u = new_file s 0 (record { name = []; content = given.Empty })

phase_once : (s : Script) (p now : ℕ) (files one other : List Resting) (ds es : List Done)
    → RunsPhase s p now files ds one → RunsPhase s p now files es other → All HadMemory ds → All HadMemory es
    → (ds ≡ es) × (one ≡ other)
phase_once s p now files one other ds es a b had_a had_b =
    let same = run_once s p 1 (first_actors s p now files) a.actors b.actors ds es
    (first_whole s p now files) a.runs b.runs had_a had_b in
    (same.0, somes one other (sym a.rest ∙ ap (map left_by) same.1 ∙ b.rest))

-- a phase of one client is none of several
one_of : (s : Script) (p now : ℕ) (files new : List Resting) (done : List Done) → length (clients_of s p) ≡ 1
    → IsPhase s p now files done new → RunsPhase s p now files done new
one_of s p now files new done one (inl h) = h
one_of s p now files new done one (inr h) = absurd (omega (arith, one, h.many))

runs_once : (s : Script) (n : ℕ) (ds es : List Done) (one other : List Resting) → IsPlain s
    → n ≤ length (phases_in s.items) → RunsTo s n ds one → RunsTo s n es other → All HadMemory ds → All HadMemory es
    → (ds ≡ es) × (one ≡ other)
runs_once s zero ds es one other plain within a b had_a had_b = (a.0 ∙ sym b.0, a.1 ∙ sym b.1)
runs_once s (suc n) ds es one other plain within a b had_a had_b =
    let all_a = subst (All HadMemory) a.5 had_a in
    let all_b = subst (All HadMemory) b.5 had_b in
    let front = runs_once s n a.0 b.0 a.2 b.2 plain (omega (arith, within)) a.3 b.3 (all_front HadMemory a.0 a.1 all_a)
    (all_front HadMemory b.0 b.1 all_b) in
    let now = ticks_before s (suc n) in
    let single = plain (suc n) (omega arith, within) in
    let mine : IsPhase s (suc n) now b.2 a.1 one = subst (λ files. IsPhase s (suc n) now files a.1 one) front.1 a.4 in
    let last = phase_once s (suc n) now b.2 one other a.1 b.1 (one_of s (suc n) now b.2 one a.1 single mine)
    (one_of s (suc n) now b.2 other b.1 single b.4) (all_behind HadMemory a.0 a.1 all_a)
    (all_behind HadMemory b.0 b.1 all_b) in
    (a.5 ∙ (λ i. front.0 i ++ last.0 i) ∙ sym b.5, last.1)

-- ---- which answer it is

-- of a script that was run, with the status
record Ran (words : List (List ℕ)) (text : List ℕ) (m : ℕ) (x : List ℕ) : Type 0 where
  json : Bool
  script : Script
  done : List Done
  files : List Resting
  asks : words ≡ task_words (Run json)
  run : IsRun text script done files
  status : ((m ≡ 0) × (list_any lacks_memory done ≡ false)) ⊎ (m ≡ 5)
  is : x ≡ written_text json script done files

record Tried (words : List (List ℕ)) (text : List ℕ) (m : ℕ) (x : List ℕ) : Type 0 where
  script : Script
  asks : words ≡ task_words Check
  read : IsScript text script
  status : m ≡ 0
  is : x ≡ accepted_text script.families

record Faulty (words : List (List ℕ)) (text : List ℕ) (m : ℕ) (x : List ℕ) : Type 0 where
  task : Task
  fault : ScriptFault
  asks : words ≡ task_words task
  refused : IsRefused text fault
  status : m ≡ 1
  is : x ≡ refused_text fault

record Seeded (words : List (List ℕ)) (m : ℕ) : Type 0 where
  seed : ℕ
  small : seed < 2 ^ 64
  asks : words ≡ seed_words seed
  status : (m ≡ 0) ⊎ (m ≡ 5)

record Wordless (words : List (List ℕ)) (m : ℕ) (x : List ℕ) : Type 0 where
  asks : AsksNothing words
  status : m ≡ 2
  is : x ≡ words_refusal

data Shown (words : List (List ℕ)) (text : List ℕ) (m : ℕ) (x : List ℕ) : Type 0 where
  by_run : Ran words text m x → Shown words text m x
  by_check : Tried words text m x → Shown words text m x
  by_fault : Faulty words text m x → Shown words text m x
  by_seed : Seeded words m → Shown words text m x
  by_words : Wordless words m x → Shown words text m x

shown : (words : List (List ℕ)) (text : List ℕ) (m : ℕ) (x : List ℕ) → IsAnswer words text m x → Shown words text m x
shown words text m x (reported json s done files run fine) =
    by_run (record {
      json = json;
      script = s;
      done = done;
      files = files;
      asks = refl;
      run = run;
      status = inl (refl, fine);
      is = refl;
    })
shown words text m x (lacked json s done files run lacks) =
    by_run (record {
      json = json;
      script = s;
      done = done;
      files = files;
      asks = refl;
      run = run;
      status = inr refl;
      is = refl;
    })
shown words text m x (accepted s is) =
    by_check (record { script = s; asks = refl; read = is; status = refl; is = refl })
shown words text m x (refused task fault is) =
    by_fault (record { task = task; fault = fault; asks = refl; refused = is; status = refl; is = refl })
shown words text m x (summed n s done files small run fine) =
    by_seed (record { seed = n; small = small; asks = refl; status = inl refl })
shown words text m x (sum_lacked n s done files small run lacks) =
    by_seed (record { seed = n; small = small; asks = refl; status = inr refl })
shown words text m x (no_words none) = by_words (record { asks = none; status = refl; is = refl })

-- the words of the tasks differ
apart : (json : Bool) → task_words (Run json) ≡ task_words Check → ⊥
apart true e = cc
apart false e = cc

one_form : (json other : Bool) → task_words (Run json) ≡ task_words (Run other) → json ≡ other
one_form true true e = refl
one_form true false e = absurd cc
one_form false true e = absurd cc
one_form false false e = refl

-- a text with a fault is no script
no_script : (text : List ℕ) (s : Script) (f : ScriptFault) → IsScript text s → IsRefused text f → ⊥
no_script text s f is wrong = go wrong.fault_of_text
  where
    go : IsScriptFault text f → ⊥
    go (inl memory) = wrong.not_memory memory
    go (inr fault) = scripts_are.either text s f.line f.kind is fault

fault_is : (text : List ℕ) (f : ScriptFault) → IsRefused text f → IsFault text f.line f.kind
fault_is text f wrong = go wrong.fault_of_text
  where
    go : IsScriptFault text f → IsFault text f.line f.kind
    go (inl memory) = absurd (wrong.not_memory memory)
    go (inr fault) = fault

-- ---- words and a text have one answer

SameAnswer : (m n : ℕ) (x y : List ℕ) → Type 0
SameAnswer m n x y = (m ≡ n) × ((x ≡ y) ⊎ RefusesAlike x y)

fine : (m : ℕ) (b : Bool) → ((m ≡ 0) × (b ≡ false)) ⊎ (m ≡ 5) → m ≢ 5 → (m ≡ 0) × (b ≡ false)
fine m b (inl h) other = h
fine m b (inr e) other = absurd (other e)

runs_alike : (words : List (List ℕ)) (text : List ℕ) (m n : ℕ) (x y : List ℕ)
    → ((s : Script) → IsScript text s → IsPlain s) → Ran words text m x → Ran words text n y → m ≢ 5 → n ≢ 5
    → SameAnswer m n x y
unfolding SameAnswer
runs_alike words text m n x y plain a b one other =
    let fine_a = fine m _ a.status one in
    let fine_b = fine n _ b.status other in
    let script : a.script ≡ b.script = scripts_are.script text a.script b.script a.run.script b.run.script in
    let mine : IsScriptRun b.script a.done a.files = subst (λ s. IsScriptRun s a.done a.files) script a.run.run in
    let same = runs_once b.script (length (phases_in b.script.items)) a.done b.done a.files b.files
    (plain b.script b.run.script) (omega arith) mine b.run.run (none_lacks a.done fine_a.1)
    (none_lacks b.done fine_b.1) in
    let form = one_form a.json b.json (sym a.asks ∙ b.asks) in (
      fine_a.0 ∙ sym fine_b.0,
      inl (a.is ∙ (λ i. written_text (form i) (script i) (same.0 i) (same.1 i)) ∙ sym b.is),
    )

faults_alike : (words : List (List ℕ)) (text : List ℕ) (m n : ℕ) (x y : List ℕ) → Faulty words text m x
    → Faulty words text n y → SameAnswer m n x y
unfolding SameAnswer
faults_alike words text m n x y a b =
    let same = scripts_are.fault text a.fault.line b.fault.line a.fault.kind b.fault.kind
    (fault_is text a.fault a.refused)
    (fault_is text b.fault b.refused) in (
      a.status ∙ sym b.status,
      inr (record {
        one = a.fault;
        other = b.fault;
        first = a.is;
        second = b.is;
        line = same.0;
        kind = same.1;
      }),
    )

alike : (words : List (List ℕ)) (text : List ℕ) (m n : ℕ) (x y : List ℕ) → AsksNoSeed words
    → ((s : Script) → IsScript text s → IsPlain s) → Shown words text m x → Shown words text n y → m ≢ 5 → n ≢ 5
    → SameAnswer m n x y
unfolding SameAnswer
alike words text m n x y none plain (by_run a) (by_run b) one other =
    runs_alike words text m n x y plain a b one other
alike words text m n x y none plain (by_run a) (by_check b) one other = absurd (apart a.json (sym a.asks ∙ b.asks))
alike words text m n x y none plain (by_run a) (by_fault b) one other =
    absurd (no_script text a.script b.fault a.run.script b.refused)
alike words text m n x y none plain (by_run a) (by_words b) one other = absurd (b.asks.0 (Run a.json) a.asks)
alike words text m n x y none plain (by_check a) (by_run b) one other = absurd (apart b.json (sym b.asks ∙ a.asks))
alike words text m n x y none plain (by_check a) (by_check b) one other =
    let script : a.script ≡ b.script = scripts_are.script text a.script b.script a.read b.read in
    (a.status ∙ sym b.status, inl (a.is ∙ ap (λ (s : Script). accepted_text s.families) script ∙ sym b.is))
alike words text m n x y none plain (by_check a) (by_fault b) one other = absurd
    (no_script text a.script b.fault a.read b.refused)
alike words text m n x y none plain (by_check a) (by_words b) one other = absurd (b.asks.0 Check a.asks)
alike words text m n x y none plain (by_fault a) (by_run b) one other =
    absurd (no_script text b.script a.fault b.run.script a.refused)
alike words text m n x y none plain (by_fault a) (by_check b) one other = absurd
    (no_script text b.script a.fault b.read a.refused)
alike words text m n x y none plain (by_fault a) (by_fault b) one other = faults_alike words text m n x y a b
alike words text m n x y none plain (by_fault a) (by_words b) one other = absurd (b.asks.0 a.task a.asks)
alike words text m n x y none plain (by_words a) (by_run b) one other = absurd (a.asks.0 (Run b.json) b.asks)
alike words text m n x y none plain (by_words a) (by_check b) one other = absurd (a.asks.0 Check b.asks)
alike words text m n x y none plain (by_words a) (by_fault b) one other = absurd (a.asks.0 b.task b.asks)
alike words text m n x y none plain (by_words a) (by_words b) one other =
    (a.status ∙ sym b.status, inl (a.is ∙ sym b.is))
alike words text m n x y none plain (by_run a) (by_seed b) one other = absurd (none b.seed b.small b.asks)
alike words text m n x y none plain (by_check a) (by_seed b) one other = absurd (none b.seed b.small b.asks)
alike words text m n x y none plain (by_fault a) (by_seed b) one other = absurd (none b.seed b.small b.asks)
alike words text m n x y none plain (by_words a) (by_seed b) one other = absurd (none b.seed b.small b.asks)
alike words text m n x y none plain (by_seed a) b one other = absurd (none a.seed a.small a.asks)

pub one_answer : OneAnswer
unfolding SameAnswer
one_answer words text m n x y none plain a b one other =
    alike words text m n x y none plain (shown words text m x a) (shown words text n y b) one other

-- ---- a call ends well where nothing fails

-- an answer of status 1 to a script's run, or of status 2 to the words of a task, is none
not_refused : (words : List (List ℕ)) (text : List ℕ) (s : Script) (x : List ℕ) → Shown words text 1 x
    → IsScript text s → ⊥
not_refused words text s x (by_run a) is =
    elim a.status [ inl h ↦ let told = h.0 in cc | inr e ↦ cc ]
not_refused words text s x (by_check a) is = let told = a.status in cc
not_refused words text s x (by_fault a) is = no_script text s a.fault is a.refused
not_refused words text s x (by_seed a) is = elim a.status [ inl e ↦ cc | inr e ↦ cc ]
not_refused words text s x (by_words a) is = let told = a.status in cc

not_words : (task : Task) (words : List (List ℕ)) (text x : List ℕ) → words ≡ task_words task → Shown words text 2 x → ⊥
not_words task words text x e (by_run a) = elim a.status [ inl h ↦ let told = h.0 in cc | inr e ↦ cc ]
not_words task words text x e (by_check a) = let told = a.status in cc
not_words task words text x e (by_fault a) = let told = a.status in cc
not_words task words text x e (by_seed a) = elim a.status [ inl h ↦ cc | inr h ↦ cc ]
not_words task words text x e (by_words a) = a.asks.0 task e

run_ends_well : (json : Bool) (c : Call) (status : Status) (text : List ℕ) (s : Script) → Ends c status
    → c.words ≡ task_words (Run json) → c.left ≡ Some text → IsScript text s → NothingFailed c
    → (status ≡ ended.Done) ⊎ (status ≡ ended.Memory)
run_ends_well json c ended.Done text s h asks left is held = inl refl
run_ends_well json c ended.Memory text s h asks left is held = inr refl
run_ends_well json c ended.Refused text s h asks left is held =
    let same : h.text ≡ text = subst (λ l. IfSome l (λ bytes. h.text ≡ bytes)) left h.input in
    absurd (not_refused c.words h.text s h.writes.bytes (shown c.words h.text 1 h.writes.bytes h.writes.answer)
    (subst (λ t. IsScript t s) (sym same) is))
run_ends_well json c ended.Words text s h asks left is held =
    absurd (not_words (Run json) c.words h.text h.writes.bytes asks
    (shown c.words h.text 2 h.writes.bytes h.writes.answer))
run_ends_well json c ended.SourceFault text s h asks left is held = absurd (held.reads h.1)
run_ends_well json c ended.SinkFault text s h asks left is held = absurd (held.writes h.writes.failed)

check_ends_well : (c : Call) (status : Status) → Ends c status → c.words ≡ task_words Check → NothingFailed c
    → (status ≡ ended.Done) ⊎ ((status ≡ ended.Refused) ⊎ (status ≡ ended.Memory))
check_ends_well c ended.Done h asks held = inl refl
check_ends_well c ended.Refused h asks held = inr (inl refl)
check_ends_well c ended.Memory h asks held = inr (inr refl)
check_ends_well c ended.Words h asks held =
    absurd (not_words Check c.words h.text h.writes.bytes asks (shown c.words h.text 2 h.writes.bytes h.writes.answer))
check_ends_well c ended.SourceFault h asks held = absurd (held.reads h.1)
check_ends_well c ended.SinkFault h asks held = absurd (held.writes h.writes.failed)

-- an answer of status 1 or 2 to the words of a seed is none
no_fault : (n : ℕ) (words : List (List ℕ)) (text x : List ℕ) → words ≡ seed_words n → Shown words text 1 x → ⊥
no_fault n words text x e (by_run a) = elim a.status [ inl h ↦ let told = h.0 in cc | inr h ↦ cc ]
no_fault n words text x e (by_check a) = let told = a.status in cc
no_fault n words text x e (by_fault a) = no_task n a.task (sym e ∙ a.asks)
no_fault n words text x e (by_seed a) = elim a.status [ inl h ↦ cc | inr h ↦ cc ]
no_fault n words text x e (by_words a) = let told = a.status in cc

no_refusal : (n : ℕ) (words : List (List ℕ)) (text x : List ℕ) → n < 2 ^ 64 → words ≡ seed_words n
    → Shown words text 2 x → ⊥
no_refusal n words text x small e (by_run a) = elim a.status [ inl h ↦ let told = h.0 in cc | inr h ↦ cc ]
no_refusal n words text x small e (by_check a) = let told = a.status in cc
no_refusal n words text x small e (by_fault a) = let told = a.status in cc
no_refusal n words text x small e (by_seed a) = elim a.status [ inl h ↦ cc | inr h ↦ cc ]
no_refusal n words text x small e (by_words a) = a.asks.1 n small e

seed_ends_well : (n : ℕ) (c : Call) (status : Status) → n < 2 ^ 64 → Ends c status → c.words ≡ seed_words n
    → (HasRisen c.output.faults c.output.faults_now → ⊥) → (status ≡ ended.Done) ⊎ (status ≡ ended.Memory)
seed_ends_well n c ended.Done small h asks held = inl refl
seed_ends_well n c ended.Memory small h asks held = inr refl
seed_ends_well n c ended.Refused small h asks held =
    absurd (no_fault n c.words h.text h.writes.bytes asks (shown c.words h.text 1 h.writes.bytes h.writes.answer))
seed_ends_well n c ended.Words small h asks held =
    absurd (no_refusal n c.words h.text h.writes.bytes small asks
    (shown c.words h.text 2 h.writes.bytes h.writes.answer))
seed_ends_well n c ended.SourceFault small h asks held = absurd (no_task n h.0.words.0 (sym asks ∙ h.0.words.1))
seed_ends_well n c ended.SinkFault small h asks held = absurd (held h.writes.failed)

pub ends_well : Completes
ends_well = record { run = run_ends_well; check = check_ends_well; seed = seed_ends_well }

-- ---- the statuses, both ways

-- an answer to the words of a task, where the text is no script, has status 1
of_no_script : (task : Task) (words : List (List ℕ)) (text : List ℕ) (m : ℕ) (x : List ℕ) → words ≡ task_words task
    → IsNoScript text → Shown words text m x → m ≡ 1
of_no_script task words text m x e none (by_run a) = absurd (none a.script a.run.script)
of_no_script task words text m x e none (by_check a) = absurd (none a.script a.read)
of_no_script task words text m x e none (by_fault a) = a.status
of_no_script task words text m x e none (by_seed a) = absurd (no_task a.seed task (sym a.asks ∙ e))
of_no_script task words text m x e none (by_words a) = absurd (a.asks.0 task e)

-- one of status 1 is to the words of a task, and the text is no script
of_one : (words : List (List ℕ)) (text x : List ℕ) → Shown words text 1 x
    → ((task : Task) × (words ≡ task_words task)) × IsNoScript text
of_one words text x (by_run a) = absurd (elim a.status [ inl h ↦ let told = h.0 in cc | inr h ↦ cc ])
of_one words text x (by_check a) = absurd (let told = a.status in cc)
of_one words text x (by_fault a) = ((a.task, a.asks), λ s is. no_script text s a.fault is a.refused)
of_one words text x (by_seed a) = absurd (elim a.status [ inl h ↦ cc | inr h ↦ cc ])
of_one words text x (by_words a) = absurd (let told = a.status in cc)

-- one to words that ask for nothing has status 2
of_words : (words : List (List ℕ)) (text : List ℕ) (m : ℕ) (x : List ℕ) → AsksNothing words → Shown words text m x
    → m ≡ 2
of_words words text m x none (by_run a) = absurd (none.0 (Run a.json) a.asks)
of_words words text m x none (by_check a) = absurd (none.0 Check a.asks)
of_words words text m x none (by_fault a) = absurd (none.0 a.task a.asks)
of_words words text m x none (by_seed a) = absurd (none.1 a.seed a.small a.asks)
of_words words text m x none (by_words a) = a.status

-- and one of status 2 is to such words
of_two : (words : List (List ℕ)) (text x : List ℕ) → Shown words text 2 x → AsksNothing words
of_two words text x (by_run a) = absurd (elim a.status [ inl h ↦ let told = h.0 in cc | inr h ↦ cc ])
of_two words text x (by_check a) = absurd (let told = a.status in cc)
of_two words text x (by_fault a) = absurd (let told = a.status in cc)
of_two words text x (by_seed a) = absurd (elim a.status [ inl h ↦ cc | inr h ↦ cc ])
of_two words text x (by_words a) = a.asks

refused_ends : (task : Task) (c : Call) (status : Status) (text : List ℕ) → Ends c status
    → c.words ≡ task_words task → c.left ≡ Some text → IsNoScript text → NothingFailed c
    → (status ≡ ended.Refused) ⊎ (status ≡ ended.Memory)
refused_ends task c ended.Done text h asks left none held =
    let same : h.text ≡ text = subst (λ l. IfSome l (λ bytes. h.text ≡ bytes)) left h.input in
    let m = of_no_script task c.words h.text 0 h.writes.bytes asks (subst IsNoScript (sym same) none)
    (shown c.words h.text 0 h.writes.bytes h.writes.answer) in absurd (let e : 0 ≡ 1 = m in cc)
refused_ends task c ended.Refused text h asks left none held = inl refl
refused_ends task c ended.Memory text h asks left none held = inr refl
refused_ends task c ended.Words text h asks left none held =
    absurd (not_words task c.words h.text h.writes.bytes asks
    (shown c.words h.text 2 h.writes.bytes h.writes.answer))
refused_ends task c ended.SourceFault text h asks left none held = absurd (held.reads h.1)
refused_ends task c ended.SinkFault text h asks left none held = absurd (held.writes h.writes.failed)

words_end : (c : Call) (status : Status) → Ends c status → AsksNothing c.words
    → (HasRisen c.output.faults c.output.faults_now → ⊥) → (status ≡ ended.Words) ⊎ (status ≡ ended.Memory)
words_end c ended.Done h none held = let m = of_words c.words h.text 0 h.writes.bytes none
    (shown c.words h.text 0 h.writes.bytes h.writes.answer) in absurd (let e : 0 ≡ 2 = m in cc)
words_end c ended.Refused h none held = let m = of_words c.words h.text 1 h.writes.bytes none
    (shown c.words h.text 1 h.writes.bytes h.writes.answer) in absurd (let e : 1 ≡ 2 = m in cc)
words_end c ended.Words h none held = inl refl
words_end c ended.Memory h none held = inr refl
words_end c ended.SourceFault h none held = absurd (none.0 h.0.words.0 h.0.words.1)
words_end c ended.SinkFault h none held = absurd (held h.writes.failed)

read_failed : (c : Call) (status : Status) → Ends c status → c.faults_now ≢ c.faults → status ≡ ended.SourceFault
read_failed c ended.Done h ne = absurd (ne h.reads)
read_failed c ended.Refused h ne = absurd (ne h.reads)
read_failed c ended.Words h ne = absurd (ne h.reads)
read_failed c ended.SourceFault h ne = refl
read_failed c ended.SinkFault h ne = absurd (ne h.reads)
read_failed c ended.Memory (inl h) ne = absurd (ne h.reads)
read_failed c ended.Memory (inr h) ne = absurd (ne h.1)

lacks_held : (o : Output) (words : List (List ℕ)) (text : List ℕ) → WritesNothing o ⊎ WritesWhole o words text 5
    → o.faults_now ≡ o.faults
lacks_held o words text (inl w) = w.held
lacks_held o words text (inr w) = w.held

write_failed : (c : Call) (status : Status) → Ends c status → c.output.faults_now ≢ c.output.faults
    → status ≡ ended.SinkFault
write_failed c ended.Done h ne = absurd (ne h.writes.held)
write_failed c ended.Refused h ne = absurd (ne h.writes.held)
write_failed c ended.Words h ne = absurd (ne h.writes.held)
write_failed c ended.SourceFault h ne = absurd (ne h.0.writes.held)
write_failed c ended.SinkFault h ne = refl
write_failed c ended.Memory (inl h) ne = absurd (ne (lacks_held c.output c.words h.text h.writes))
write_failed c ended.Memory (inr h) ne = absurd (ne h.0.writes.held)

pub statuses_tell : StatusesTell
statuses_tell = record {
  refused = refused_ends;
  refused_so = λ c h. let t = of_one c.words h.text h.writes.bytes
      (shown c.words h.text 1 h.writes.bytes h.writes.answer) in (t.0, (h.text, h.input, t.1));
  words = words_end;
  words_so = λ c h. of_two c.words h.text h.writes.bytes (shown c.words h.text 2 h.writes.bytes h.writes.answer);
  read_failed = read_failed;
  read_failed_so = λ c h. h.1;
  write_failed = write_failed;
  write_failed_so = λ c h. h.writes.failed;
}
