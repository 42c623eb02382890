-- What a command that was done leaves of the files' actors.
use Rattle.std.proofs.Common.{◌≡◌, ℕ, suc, ◌+◌, ◌^◌, ◌<◌, ◌≤◌, Bool, List, [], ◌∷◌, ◌++◌, length}
use Rattle.std.proofs.Common.{get_or, take, refl, sym, ap, ◌∙◌, subst, arith, All, Option}
use Rattle.std.proofs.Common.{IfSome, inl, inr, ◌*◌, Some, None}
use Rattle.mf_client.proofs.Dues.{IsFew, are_low, few_due, few_policies}
use Rattle.std.proofs.lemmas.Bool.{cases_lt}
use Rattle.std.proofs.lemmas.List.{length-map, get_or-map}
use Rattle.std.proofs.lemmas.Option.{slice_get_within, get_or_from_slice_get, slice_get-get_or}
use Rattle.std.proofs.lemmas.List.Elements.{All-head, All-tail, All-cons, All-nil, All-set, All-push}
use Rattle.std.proofs.Math.Seq.{take-suc}
use Rattle.mf_machine.specs.File.{listed}
use Rattle.mf_places.specs.declared.losses.LoseLine.{LoseLine}
use Rattle.mf_places.specs.declared.Name.{Name}
use Rattle.mf_lines.specs.declared.parts.Act.{Act}
use Rattle.mf_lines.specs.declared.parts.Act.TheVariants as act
use Rattle.mf_lines.specs.declared.parts.Command.{Command}
use Rattle.mf_lines.specs.declared.parts.FileLine.{FileLine}
use Rattle.mf_lines.specs.Meaning.{Script, file_in}
use Rattle.mf_script.specs.Losses.{losses_of}
use Rattle.mf_script.specs.Families.{file_code, file_policies}
use Rattle.mf_script.specs.Sound.{IsSound}
use Rattle.mf_script.proofs.FamilyLemmas.{families_fit, files_belong}
use Rattle.mf_vault.specs.declared.answers.Entry.{Entry}
use Rattle.mf_vault.specs.declared.io.Io.{Io}
use Rattle.mf_vault.specs.Facts.{Facts, lines}
use Rattle.mf_vault.specs.Actor.{Actor, did, cut_off}
use Rattle.mf_vault.specs.Counting.{no_io, add_io, io_of}
use Rattle.mf_vault.specs.Conditions.{IsIdle, IsOfFamily}
use Rattle.mf_vault.specs.Licence.{IsKept, entries_of}
use Rattle.mf_vault.proofs.Counted.{Below, io_low}
use Rattle.mf_vault.proofs.Doing.{facts_stay}
use Rattle.mf_client.specs.declared.done.Done.{Done}
use Rattle.mf_client.specs.declared.done.Outcome.{Outcome}
use Rattle.mf_client.specs.declared.done.Outcome.TheVariants as outcome
use Rattle.mf_client.specs.declared.done.Part.{Part}
use Rattle.mf_client.specs.OnFile.{OnFile}
use Rattle.mf_client.specs.Sweeps.{Visit, IsSwept, ages_in}
use Rattle.mf_client.specs.Acts.{Acts, loses, LosesIn, LosesAll, IsLost, lists_on, away_of, cut_all}
use Rattle.mf_client.specs.Clients.{facts_in, commands_of, AreFiles, HasClient}
use Rattle.mf_client.specs.Runs.{gained, io_gained, IsSmall, IsDone, RunsFrom}
use Rattle.mf_client.specs.Acts.{Comes, ActsBy}
use Rattle.mf_client.specs.Steps.{IsRunning, IsLine, Finds, AreOfFamilies}
use Rattle.mf_client.proofs.Known.{command_knows}
use Rattle.mf_client.proofs.Listing.{lose_listed}
use Rattle.mf_vault.proofs.Leaving.{Stays, quiet_all, AreQuiet}
use Rattle.mf_client.proofs.Numbered.{io_set, io_cut, plus_none, facts_cut, idle_cut, IsFiled, filed, filed_cut}
use Rattle.mf_client.proofs.Visiting.{visits_pass}
use Rattle.mf_client.proofs.Went.{comes_went, gained_is}

-- ---- lose

quiet_loses : (line : ℕ) (xs : List Name) (ss : List Bool) → AreQuiet (loses line xs ss)
quiet_loses line [] ss = tt
quiet_loses line (x ∷ xs) [] = tt
quiet_loses line (x ∷ xs) (s ∷ ss) = (tt, quiet_loses line xs ss)

lose_stays : {line n : ℕ} {names : List Name} {a b : Actor} → LosesIn line names n a b → Stays a b
lose_stays {line = line} {names = names} {a = a} x =
    subst (Stays a) (sym x.does.becomes) (quiet_all (loses line names x.answers) a (quiet_loses line names x.answers))

loses_count : (line : ℕ) (xs : List Name) (ss : List Bool) → io_of (entries_of (loses line xs ss)) ≡ no_io
loses_count line [] ss = refl
loses_count line (x ∷ xs) [] = refl
loses_count line (x ∷ xs) (s ∷ ss) = ap (add_io no_io) (loses_count line xs ss) ∙ plus_none no_io

lost_file_io : {line n : ℕ} {names : List Name} {a b : Actor} → LosesIn line names n a b
    → io_of (gained a b) ≡ no_io
lost_file_io {line = line} {names = names} x = ap io_of (gained_is x.does) ∙ loses_count line names x.answers

lost_all_io : (line : ℕ) (lists : List (List Name)) (n : ℕ) (before after : List Actor)
    → LosesAll line lists n before after → io_gained before after ≡ no_io
lost_all_io line [] n [] [] x = refl
lost_all_io line [] n [] (b ∷ after) x = absurd x
lost_all_io line [] n (a ∷ before) after x = absurd x
lost_all_io line (names ∷ lists) n [] after x = absurd x
lost_all_io line (names ∷ lists) n (a ∷ before) [] x = absurd x
lost_all_io line (names ∷ lists) n (a ∷ before) (b ∷ after) (k, r, e, one, others) =
    (λ i. add_io (lost_file_io one i) (lost_all_io line lists r before after others i)) ∙ plus_none no_io

pub lost_io : (server line : ℕ) (o : Outcome) (before after : List Actor) → IsLost server line o before after
    → io_gained before after ≡ no_io
lost_io server line (outcome.Lost n) before after x = lost_all_io line (lists_on server before) n before after x
lost_io server line outcome.Memory before after x =
    ap (io_gained before) x ∙ Rattle.mf_client.proofs.Numbered.io_same before
lost_io server line other before after x = absurd x

-- ---- what any command leaves

-- idle actors of the same files, whose ledgers gained few entries
record Left (before after : List Actor) : Type 0 where
  idle : All IsIdle after
  facts : facts_in after ≡ facts_in before
  small : IsSmall (io_gained before after)

nothing_small : IsSmall no_io
nothing_small = record {
  pieces = omega arith;
  copies = omega arith;
  parities = omega arith;
  misses = omega arith;
  writes = omega arith;
  probes = omega arith;
  drops = omega arith;
}

few_small : (es : List Entry) → length es < 2 ^ 24 → IsSmall (io_of es)
few_small es few =
    let b = io_low es in
    let p = b.pieces in
    let c = b.copies in
    let r = b.parities in
    let m = b.misses in
    let w = b.writes in
    let q = b.probes in
    let d = b.drops in
    record {
      pieces = omega arith;
      copies = omega arith;
      parities = omega arith;
      misses = omega arith;
      writes = omega arith;
      probes = omega arith;
      drops = omega arith;
    }

on_left : (x : Act) (o : Outcome) (file : ℕ) (before after : List Actor) → All IsFiled before → All IsIdle before
    → OnFile file (Comes x o) before after → Left before after
on_left x o file before after kept idle on =
    let low = slice_get_within before file on.old on.was in
    let at = get_or_from_slice_get before file on.old on.old on.was in
    let was_kept : IsFiled on.old = subst IsFiled at (kept file on.old low) in
    let was_idle : IsIdle on.old = subst IsIdle at (idle file on.old low) in
    let went = comes_went x o was_kept.layout was_idle on.goes in
    let facts = λ (a : Actor). a.facts in
    record {
      idle = subst (All IsIdle) (sym on.is) (All-set IsIdle before file on.new went.idle idle);
      facts = ap facts_in on.is ∙ Rattle.std.proofs.Math.Seq.map-set_same facts before file on.new on.old
          (facts_stay went.does ∙ ap facts (sym at));
      small = subst IsSmall (sym (ap (io_gained before) on.is ∙ io_set before file on.old on.new low
          ∙ ap (λ (a : Actor). io_of (gained a on.new)) at ∙ ap io_of (gained_is went.does)))
          (few_small (entries_of went.calls) went.few);
    }

lost_all_left : (line : ℕ) (lists : List (List Name)) (n : ℕ) (before after : List Actor) → All IsIdle before
    → LosesAll line lists n before after → All IsIdle after × (facts_in after ≡ facts_in before)
lost_all_left line [] n [] [] idle x = (idle, refl)
lost_all_left line [] n [] (b ∷ after) idle x = absurd x
lost_all_left line [] n (a ∷ before) after idle x = absurd x
lost_all_left line (names ∷ lists) n [] after idle x = absurd x
lost_all_left line (names ∷ lists) n (a ∷ before) [] idle x = absurd x
lost_all_left line (names ∷ lists) n (a ∷ before) (b ∷ after) idle (k, r, e, one, others) =
    let s = lose_stays one in
    let i = All-head IsIdle a before idle in
    let all = lost_all_left line lists r before after (All-tail IsIdle a before idle) others in (
      All-cons IsIdle b after (record { right = s.right ∙ i.right; work = s.work ∙ i.work }) all.0,
      λ j. s.facts j ∷ all.1 j,
    )

lost_left : (server line : ℕ) (o : Outcome) (before after : List Actor) → All IsIdle before
    → IsLost server line o before after → Left before after
lost_left server line (outcome.Lost n) before after idle x =
    let r = lost_all_left line (lists_on server before) n before after idle x in record {
      idle = r.0;
      facts = r.1;
      small = subst IsSmall (sym (lost_io server line (outcome.Lost n) before after x)) nothing_small;
    }
lost_left server line outcome.Memory before after idle x = record {
  idle = subst (All IsIdle) (sym x) idle;
  facts = ap facts_in x;
  small = subst IsSmall (sym (lost_io server line outcome.Memory before after x)) nothing_small;
}
lost_left server line other before after idle x = absurd x

-- a sweep
below_small : (x : Io) (n : ℕ) → n < 2 ^ 32 → Below x n → IsSmall x
below_small x n top b =
    let p = b.pieces in
    let c = b.copies in
    let r = b.parities in
    let m = b.misses in
    let w = b.writes in
    let q = b.probes in
    let d = b.drops in
    record {
      pieces = omega arith;
      copies = omega arith;
      parities = omega arith;
      misses = omega arith;
      writes = omega arith;
      probes = omega arith;
      drops = omega arith;
    }

swept_left : (policies : List (Option (List ℕ))) (o : Outcome) (parts : List Part) (before after : List Actor)
    → All IsFew policies → length before ≤ 128 → All IsFiled before → All IsIdle before
    → IsSwept policies o parts before after → Left before after
swept_left policies (outcome.Swept n) parts before after few most kept idle x =
    let low = are_low x.visits policies (ages_in before) x.due few in
    let r = visits_pass x.visits before after low idle kept x.turn in
    let due = few_due policies before in
    let long = sym (length-map x.visits (λ (v : Visit). (v.file, v.due))) ∙ ap length x.due in
    record {
      idle = r.idle;
      facts = r.facts;
      small = below_small (io_gained before after) (length x.visits * 7920020) (omega arith) r.low;
    }
swept_left policies outcome.Memory parts before after few most kept idle x = record {
  idle = subst (All IsIdle) (sym x.1) idle;
  facts = ap facts_in x.1;
  small = subst IsSmall (sym (ap (io_gained before) x.1 ∙ Rattle.mf_client.proofs.Numbered.io_same before))
      nothing_small;
}
swept_left policies other parts before after few most kept idle x = absurd x

left_by : (f : Option ℕ) (policies : List (Option (List ℕ))) (line : ℕ) (x : Act) (o : Outcome) (parts : List Part)
    (before after : List Actor) → All IsFew policies → length before ≤ 128 → All IsFiled before
    → All IsIdle before → ActsBy f policies line x o parts before after → Left before after
left_by (Some file) policies line x o parts before after few most kept idle h =
    on_left x o file before after kept idle h.1
left_by None policies line (act.Lose server) o parts before after few most kept idle h =
    lost_left server line o before after idle h.1
left_by None policies line act.Sweep o parts before after few most kept idle h =
    swept_left policies o parts before after few most kept idle h
left_by None policies line other o parts before after few most kept idle h = absurd h

acts_left : (policies : List (Option (List ℕ))) (line : ℕ) (x : Act) (o : Outcome) (parts : List Part)
    (before after : List Actor) → All IsFew policies → length before ≤ 128 → All IsFiled before
    → All IsIdle before → Acts policies line x o parts before after → Left before after
acts_left policies line x o parts before after few most kept idle h =
    left_by (file_in x) policies line x o parts before after few most kept idle h

-- ---- a client on its way

pub begun_running : (s : Script) (phase client : ℕ) (start : List Actor) (done : List Done) → All IsIdle start
    → done ≡ [] → IsRunning s phase client 0 start done start
begun_running s phase client start done idle none = record {
  runs = (none, refl);
  count = ap length none;
  small = subst (All (λ (d : Done). IsSmall d.io)) (sym none) (All-nil (λ (d : Done). IsSmall d.io));
  idle = idle;
  facts = refl;
}

runs_push : (s : Script) (phase client n : ℕ) (commands : List Command) (c : Command) (done : List Done) (d : Done)
    (before mid after : List Actor) → RunsFrom s phase client n commands before done mid
    → IsDone s (record { phase = phase; client = client; command = n + length commands }) c d mid after
    → RunsFrom s phase client n (commands ++ c ∷ []) before (done ++ d ∷ []) after
runs_push s phase client n [] c [] d before mid after x y =
    let e : n + 0 ≡ n = omega arith in (
      after,
      subst (λ (k : ℕ). IsDone s (record { phase = phase; client = client; command = k }) c d before after) e
          (subst (λ (l : List Actor). IsDone s (record { phase = phase; client = client; command = n + 0 }) c d l after)
          x.1 y),
      (refl, refl),
    )
runs_push s phase client n [] c (e ∷ done) d before mid after x y =
    absurd (let z = ap length x.0 in omega arith)
runs_push s phase client n (k ∷ commands) c [] d before mid after x y = absurd x
runs_push s phase client n (k ∷ commands) c (e ∷ done) d before mid after (next, one, others) y =
    let f : n + suc (length commands) ≡ (n + 1) + length commands = omega arith in (
      next,
      one,
      runs_push s phase client (n + 1) commands c done d next mid after others
          (subst (λ (m : ℕ). IsDone s (record { phase = phase; client = client; command = m }) c d mid after) f y),
    )

pub running_more : (s : Script) (phase client i : ℕ) (start now after : List Actor) (done items : List Done)
    (d : Command) (next : Done) → IsRunning s phase client i start done now → All IsKept now
    → All IsFew (file_policies s) → length now ≤ 128
    → i < length (commands_of s phase client)
    → IsDone s (record { phase = phase; client = client; command = i + 1 }) (get_or (commands_of s phase client) i
    d) next
    now after → items ≡ done ++ next ∷ [] → IsRunning s phase client (i + 1) start items after
running_more s phase client i start now after done items d next x kept few most low one is =
    let commands = commands_of s phase client in
    let c = get_or commands i d in
    let cut = cut_all (away_of c.act) now in
    let many = length-map now (did (cut_off (away_of c.act))) in
    let left = acts_left (file_policies s) c.line c.act next.outcome next.parts cut after few (omega arith)
    (filed_cut (away_of c.act) now (filed now kept))
    (idle_cut (away_of c.act) now x.idle) one.acts in
    let more : suc i ≡ i + 1 = omega arith in
    let front = sym (take-suc commands i d low) ∙ ap (λ k. take k commands) more in
    let long = Rattle.std.proofs.lemmas.List.length-take i commands in
    let number : i + 1 ≡ 1 + length (take i commands) = omega arith in
    record {
      runs = subst (λ (l : List Done). RunsFrom s phase client 1 (take (i + 1) commands) start l after) (sym is)
          (subst (λ l. RunsFrom s phase client 1 l start (done ++ next ∷ []) after) front
          (runs_push s phase client 1 (take i commands) c done next start now after x.runs
          (subst (λ (k : ℕ). IsDone s (record { phase = phase; client = client; command = k }) c next now after) number
          one)));
      count = ap length is ∙ Rattle.std.proofs.lemmas.List.length_push done next ∙ ap (λ k. k + 1) x.count;
      small = subst (All (λ (e : Done). IsSmall e.io)) (sym is) (All-push (λ (e : Done). IsSmall e.io) done next x.small
          (subst IsSmall (sym (one.io ∙ sym (io_cut (away_of c.act) now after))) left.small));
      idle = left.idle;
      facts = left.facts ∙ facts_cut (away_of c.act) now ∙ x.facts;
    }

-- ---- what the next command finds

pub few_files : (xs : List Actor) (s : Script) (phase : ℕ) → All IsKept xs → AreFiles s phase (facts_in xs) → length xs
    ≤ 128
few_files xs s phase kept files = elim (cases_lt 128 (length xs)) [
  | inl more ↦
      absurd (too_many xs s phase kept files more)
  | inr few ↦ few
]
  where
    first_of : (ys : List Actor) → 128 < length ys → Actor
    first_of [] low = absurd (omega arith)
    first_of (a ∷ ys) low = a

    line_of : (ls : List FileLine) → 128 < length ls → FileLine
    line_of [] low = absurd (omega arith)
    line_of (l ∷ ls) low = l

    too_many : (xs : List Actor) (s : Script) (phase : ℕ) → All IsKept xs → AreFiles s phase (facts_in xs)
        → 128 < length xs → ⊥
    too_many xs s phase kept files more =
        let facts = λ (a : Actor). a.facts in
        let count = files.count in
        let long = length-map xs facts in
        let lines : 128 < length s.files = omega arith in
        let d = first_of xs more in
        let l = line_of s.files lines in
        let is = files.each 128 (get_or s.files 128 l) (get_or (facts_in xs) 128 d.facts)
        (slice_get-get_or s.files 128 l lines) (slice_get-get_or (facts_in xs) 128 d.facts (omega arith)) in
        let at = get_or-map facts xs 128 d d.facts more in
        let low : (get_or xs 128 d).facts.book.file < 128 = (kept 128 d more).file.layout.file in
        let number = ap (λ (f : Facts). f.book.file) (sym at) ∙ is.file in omega arith

lines_all : (l server : ℕ) (losses : List LoseLine) (xs : List Facts) → ((k : ℕ) (d : Facts) → k < length xs
    → (get_or xs k d).losses ≡ losses) → 0 < listed l server (lines losses) → All (IsLine l server) xs
lines_all l server losses xs same is = λ k d low. subst (λ x. 0 < listed l server (lines x)) (sym (same k d low)) is

losses_same : (s : Script) (phase : ℕ) (xs : List Facts) → AreFiles s phase xs → (k : ℕ) (d : Facts) → k < length xs
    → (get_or xs k d).losses ≡ losses_of s phase
losses_same s phase xs files k d low = by_line s.files refl
  where
    by_line : (ls : List FileLine) → ls ≡ s.files → (get_or xs k d).losses ≡ losses_of s phase
    by_line [] e = absurd (let n = ap length e in let m = files.count in omega arith)
    by_line (l ∷ ls) e =
        (files.each k (get_or s.files k l) (get_or xs k d)
        (slice_get-get_or s.files k l (let m = files.count in omega arith)) (slice_get-get_or xs k d low)).losses

pub finds_there : (s : Script) (phase client i : ℕ) (start now : List Actor) (d : Command)
    → IsSound s → HasClient s phase client → AreFiles s phase (facts_in start) → All IsKept now → All IsIdle now
    → facts_in now ≡ facts_in start → i < length (commands_of s phase client)
    → Finds s (get_or (commands_of s phase client) i d) now
finds_there s phase client i start now d is has files kept idle same low =
    let here = subst (AreFiles s phase) (sym same) files in
    let c = get_or (commands_of s phase client) i d in
    record {
      phase = phase;
      files = here;
      idle = idle;
      few = few_files now s phase kept here;
      file = λ n e. subst (λ (o : Option ℕ). IfSome o (λ file. file < length s.files)) e
          (command_knows s phase client i d is low).0;
      lines = λ server e. lines_all c.line server (losses_of s phase) (facts_in now)
          (losses_same s phase (facts_in now) here) (lose_listed s phase client i server d has low e);
    }

pub few_policy : (s : Script) → IsSound s → All IsFew (file_policies s)
few_policy s is = few_policies s (families_fit s is) (files_belong s is.one)

pub families_all : (s : Script) (phase : ℕ) (xs : List Actor) → AreFiles s phase (facts_in xs) → AreOfFamilies s xs
families_all s phase xs files = record { count = sym long ∙ files.count; each = λ k d low. by_line k d low s.files refl }
  where
    long : length (facts_in xs) ≡ length xs
    long = length-map xs (λ (a : Actor). a.facts)

    by_line : (k : ℕ) (d : Actor) → k < length xs → (ls : List FileLine) → ls ≡ s.files
        → IsOfFamily (file_code s k).shape (file_code s k).points (get_or xs k d).facts.book
    by_line k d low [] e = absurd (let n = ap length e in let m = files.count in omega (arith, long))
    by_line k d low (l ∷ ls) e =
        let m = files.count in
        let is = files.each k (get_or s.files k l) (get_or (facts_in xs) k d.facts)
        (slice_get-get_or s.files k l (omega (arith, long)))
        (slice_get-get_or (facts_in xs) k d.facts (omega (arith, long))) in
        subst (λ (f : Facts). IsOfFamily (file_code s k).shape (file_code s k).points f.book)
        (get_or-map (λ (a : Actor). a.facts) xs k d d.facts low) is.family
