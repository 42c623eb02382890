-- What the report of a run says: digests of cells, and conversions that read no data.
use Rattle.std.proofs.Common.{◌≡◌, ℕ, zero, suc, ◌+◌, ◌<◌, ◌≤◌, Bool, true, List, [], ◌∷◌, ◌++◌, length, drop}
use Rattle.std.proofs.Common.{Option, None, Some, All, inl, inr, map, refl, sym, ap, ◌∙◌, subst, arith}
use Rattle.std.specs.Prelude.{codes, filter, slice_get, slice_index_or, slice_set}
use Rattle.std.specs.List.{flat_map, sum_by}
use Rattle.std.specs.Fmt.{digits}
use Rattle.std.proofs.lemmas.List.{append-nil, append_assoc, drop_at}
use Rattle.std.proofs.lemmas.List.Sums.{sum_by-le}
use Rattle.std.proofs.lemmas.List.Elements.{All-nil, All-cons, All-append, All-filter, All-map, filter_passes}
use Rattle.mf_places.specs.Facts.{BookFacts}
use Rattle.mf_places.specs.Names.{count_of}
use Rattle.mf_script.specs.Families.{file_policies}
use Rattle.mf_vault.specs.Texts.{io_text, io_numbers}
use Rattle.mf_places.specs.Servers.{no_servers}
use Rattle.mf_text.specs.Decimal.{decimal_text}
use Rattle.mf_lines.specs.declared.parts.Act.{Act}
use Rattle.mf_lines.specs.declared.parts.Act.TheVariants as act
use Rattle.mf_lines.specs.declared.parts.Command.{Command}
use Rattle.mf_lines.specs.declared.parts.FileLine.{FileLine}
use Rattle.mf_lines.specs.Meaning.{Script}
use Rattle.mf_script.specs.Contents.{bytes_in}
use Rattle.mf_script.specs.Phases.{ticks_before}
use Rattle.mf_vault.specs.declared.answers.Entry.{Entry}
use Rattle.mf_vault.specs.declared.answers.Rest.TheVariants as rest
use Rattle.mf_vault.specs.declared.io.Io.{Io}
use Rattle.mf_vault.specs.Facts.{Facts}
use Rattle.mf_vault.specs.Actor.{Actor}
use Rattle.mf_vault.specs.Counting.{io_of}
use Rattle.mf_vault.proofs.Counted.{io_append}
use Rattle.mf_convert.specs.declared.change.Change.{Change}
use Rattle.mf_convert.specs.Convert.{Converts}
use Rattle.mf_convert.proofs.Dataless.{reads_no_data}
use Rattle.mf_plain.specs.Resting.{Resting}
use Rattle.mf_client.specs.declared.done.Done.{Done}
use Rattle.mf_client.specs.declared.done.Outcome.{Outcome}
use Rattle.mf_client.specs.declared.done.Outcome.TheVariants as outcome
use Rattle.mf_client.specs.declared.done.Part.{Part}
use Rattle.mf_client.specs.declared.done.Place.{Place}
use Rattle.mf_client.specs.Acts.{Acts, IsConverted, away_of, cut_all}
use Rattle.mf_client.specs.Sweeps.{Visit, ConvertsInTurn, VisitsInTurn, IsSwept}
use Rattle.mf_client.specs.Clients.{commands_of}
use Rattle.mf_client.specs.Runs.{IsDone, RunsFrom, gained, io_gained}
use Rattle.mf_client.proofs.Numbered.{io_cut}
use Rattle.mf_report.specs.Lines.{spaced}
use Rattle.mf_report.specs.Counts.{total_io}
use Rattle.mf_report.specs.Commands.{converts}
use Rattle.mf_report.specs.Dumps.{chunk_text}
use Rattle.mf_report.specs.Report.{took, conversions}
use Rattle.mf_report.proofs.Cells.{here_is_digest}
use Rattle.mf_crew.specs.Alone.{first_actors}
use Rattle.mf_crew.specs.Live.{Ran, AllRan, IsPhase}
use Rattle.mf_top.specs.ScriptRun.{RunsTo}
use Rattle.mf_top.specs.Laws.{cell_text, DigestsAreOfCells, ReadsNoData, ConversionsReadNoData}

-- ---- digests

pub digests : DigestsAreOfCells
digests text s done files run number line r at left n low bytes here =
    let is = run.left.each number line r at left in
    let within : n < count_of r.book = subst (λ (b : BookFacts). n < count_of b) (sym is.book) low in
    here_is_digest r is.rest n within bytes here ∙ (λ i. cell_text (is.book i) (is.bytes i) n)

-- ---- operations without a read of data

record NoData (io : Io) : Type 0 where
  pieces : io.pieces ≡ 0
  copies : io.copies ≡ 0

-- a ledger that gained no read of data
record Gains (a b : Actor) : Type 0 where
  entries : List Entry
  is : b.entries ≡ a.entries ++ entries
  none : NoData (io_of entries)

gains_nothing : (a : Actor) → Gains a a
gains_nothing a =
    record { entries = []; is = sym (append-nil a.entries); none = record { pieces = refl; copies = refl } }

gains_then : (a b c : Actor) → Gains a b → Gains b c → Gains a c
gains_then a b c x y =
    let e = io_append x.entries y.entries in
    let pieces = ap (λ (io : Io). io.pieces) e in
    let copies = ap (λ (io : Io). io.copies) e in
    record {
      entries = x.entries ++ y.entries;
      is = y.is ∙ ap (λ l. l ++ y.entries) x.is ∙ append_assoc a.entries x.entries y.entries;
      none = record {
        pieces = omega (arith, pieces, x.none.pieces, y.none.pieces);
        copies = omega (arith, copies, x.none.copies, y.none.copies);
      };
    }

-- of a conversion
gains_convert : (upto : ℕ) (stop : Option ℕ) (o : Change) (a b : Actor) → Converts upto stop o a b → Gains a b
gains_convert upto stop o a b x =
    let r = (reads_no_data a b upto stop o x).1 in
    record { entries = r.0; is = r.1; none = record { pieces = r.3; copies = r.4 } }

converted_gains : (stop : Option ℕ) (o : Outcome) (a b : Actor) → IsConverted stop o a b → Gains a b
converted_gains stop (outcome.Change change) a b x = gains_convert _ stop change a b x
converted_gains stop other a b x = absurd x

-- so of all files
AllGain : List Actor → List Actor → Type 0
AllGain [] [] = Unit {0}
AllGain [] (b ∷ after) = ⊥
AllGain (a ∷ before) [] = ⊥
AllGain (a ∷ before) (b ∷ after) = Gains a b × AllGain before after

all_nothing : (actors : List Actor) → AllGain actors actors
unfolding AllGain
all_nothing [] = tt
all_nothing (a ∷ actors) = (gains_nothing a, all_nothing actors)

all_then : (xs ys zs : List Actor) → AllGain xs ys → AllGain ys zs → AllGain xs zs
unfolding AllGain
all_then [] [] zs h k = k
all_then [] (y ∷ ys) zs h k = absurd h
all_then (x ∷ xs) [] zs h k = absurd h
all_then (x ∷ xs) (y ∷ ys) [] h k = absurd k
all_then (x ∷ xs) (y ∷ ys) (z ∷ zs) h k = (gains_then x y z h.0 k.0, all_then xs ys zs h.1 k.1)

-- one file's ledger did, and the others stayed
all_set : (xs : List Actor) (n : ℕ) (old new : Actor) → slice_get xs n ≡ Some old → Gains old new
    → AllGain xs (slice_set xs n new)
unfolding AllGain
all_set [] n old new was h = absurd cc
all_set (x ∷ xs) zero old new was h =
    let same : x ≡ old = cc in (subst (λ a. Gains a new) (sym same) h, all_nothing xs)
all_set (x ∷ xs) (suc n) old new was h = (gains_nothing x, all_set xs n old new was h)

all_none : (before after : List Actor) → AllGain before after → NoData (io_gained before after)
unfolding AllGain
all_none [] after h = record { pieces = refl; copies = refl }
all_none (a ∷ before) [] h = absurd h
all_none (a ∷ before) (b ∷ after) h =
    let mine = h.0 in
    let rest = all_none before after h.1 in
    let e : gained a b ≡ mine.entries =
    ap (drop (length a.entries)) mine.is ∙ drop_at a.entries mine.entries (length a.entries) refl in
    let pieces = ap (λ (es : List Entry). (io_of es).pieces) e in
    let copies = ap (λ (es : List Entry). (io_of es).copies) e in
    record {
      pieces = omega (arith, pieces, mine.none.pieces, rest.pieces);
      copies = omega (arith, copies, mine.none.copies, rest.copies);
    }

-- of the conversions of a sweep
turn_gains : (upto : ℕ) (cs : List Change) (a b : Actor) → ConvertsInTurn upto cs a b → Gains a b
turn_gains upto [] a b h = subst (Gains a) (sym h) (gains_nothing a)
turn_gains upto (c ∷ cs) a b h =
    gains_then a h.0 b (gains_convert upto None c a h.0 h.1) (turn_gains upto cs h.0 b h.2)

visits_gain : (vs : List Visit) (before after : List Actor) → VisitsInTurn vs before after → AllGain before after
visits_gain [] before after h = subst (AllGain before) (sym h) (all_nothing before)
visits_gain (v ∷ vs) before after h =
    let on = h.1 in
    let first : AllGain before h.0 = subst (AllGain before) (sym on.is)
    (all_set before v.file on.old on.new on.was (turn_gains v.due v.changes on.old on.new on.goes.converts)) in
    all_then before h.0 after first (visits_gain vs h.0 after h.2)

swept_gains : (policies : List (Option (List ℕ))) (o : Outcome) (parts : List Part) (before after : List Actor)
    → IsSwept policies o parts before after → AllGain before after
swept_gains policies (outcome.Swept n) parts before after h = visits_gain h.visits before after h.turn
swept_gains policies outcome.Memory parts before after h = subst (AllGain before) (sym h.1) (all_nothing before)
swept_gains policies other parts before after h = absurd h

-- of a command that converts
act_none : (policies : List (Option (List ℕ))) (line : ℕ) (x : Act) (o : Outcome) (parts : List Part)
    (before after : List Actor) → Acts policies line x o parts (cut_all (away_of x) before) after → converts x ≡ true
    → NoData (io_gained before after)
act_none policies line (act.Convert file away stop) o parts before after h is =
    let on = h.1 in
    let cut = cut_all away before in
    let gain : AllGain cut after = subst (AllGain cut) (sym on.is)
    (all_set cut file on.old on.new on.was (converted_gains stop o on.old on.new on.goes)) in
    subst NoData (io_cut away before after) (all_none cut after gain)
act_none policies line act.Sweep o parts before after h is =
    let cut = cut_all no_servers before in
    subst NoData (io_cut no_servers before after) (all_none cut after (swept_gains policies o parts cut after h))
act_none policies line other o parts before after h is = absurd cc

-- if a command converts
Fine : Done → Type 0
Fine d = converts d.act ≡ true → NoData d.io

done_fine : (s : Script) (at : Place) (c : Command) (d : Done) (before after : List Actor)
    → IsDone s at c d before after → Fine d
unfolding Fine
done_fine s at c d before after h is =
    subst NoData (sym h.io)
    (act_none (file_policies s) c.line c.act d.outcome d.parts before after h.acts (ap converts (sym h.act) ∙ is))

run_fine : (s : Script) (p c k : ℕ) (commands : List Command) (before : List Actor) (done : List Done)
    (after : List Actor) → RunsFrom s p c k commands before done after → All Fine done
run_fine s p c k [] before done after h = subst (All Fine) (sym h.0) (All-nil Fine)
run_fine s p c k (x ∷ xs) before [] after h = absurd h
run_fine s p c k (x ∷ xs) before (d ∷ done) after h =
    All-cons Fine d done (done_fine s _ x d before h.0 h.1) (run_fine s p c (k + 1) xs h.0 done after h.2)

all_ran_fine : (s : Script) (p c : ℕ) (files : List Facts) (clients : List Ran) → AllRan s p c files clients
    → All Fine (flat_map (λ (r : Ran). r.done) clients)
all_ran_fine s p c files [] h = All-nil Fine
all_ran_fine s p c files (r ∷ clients) h =
    All-append Fine r.done (flat_map (λ (r : Ran). r.done) clients)
    (run_fine s p c 1 (commands_of s p c) _ r.done r.actors h.0) (all_ran_fine s p (c + 1) files clients h.1)

phase_fine : (s : Script) (p now : ℕ) (before after : List Resting) (done : List Done)
    → IsPhase s p now before done after → All Fine done
phase_fine s p now before after done (inl h) =
    run_fine s p 1 1 (commands_of s p 1) (first_actors s p now before) done h.actors h.runs
phase_fine s p now before after done (inr h) =
    subst (All Fine) (sym h.in_order) (all_ran_fine s p 1 h.files h.clients h.ran)

runs_fine : (s : Script) (n : ℕ) (done : List Done) (files : List Resting) → RunsTo s n done files → All Fine done
runs_fine s zero done files h = subst (All Fine) (sym h.0) (All-nil Fine)
runs_fine s (suc n) done files h =
    subst (All Fine) (sym h.5) (All-append Fine h.0 h.1 (runs_fine s n h.0 h.2 h.3)
    (phase_fine s (suc n) (ticks_before s (suc n)) h.2 files h.1 h.4))

-- ---- the sums of conversions

IsZero : (Io → ℕ) → Done → Type 0
IsZero f d = f d.io ≤ 0

sum_zero : (f : Io → ℕ) (done : List Done) → All (λ (d : Done). f d.io ≤ 0) done
    → sum_by f (map (λ (d : Done). d.io) done) ≡ 0
sum_zero f done zeros =
    let ios = map (λ (d : Done). d.io) done in
    omega (arith, sum_by-le f 0 ios (All-map (λ io. f io ≤ 0) (λ (d : Done). d.io) done zeros))

conversions_none : (done : List Done) → All Fine done → All (λ (d : Done). NoData d.io) (conversions done)
unfolding Fine
conversions_none done fine =
    let p = λ (d : Done). converts d.act in
    let passes = filter_passes p done in
    let kept = All-filter p Fine done fine in λ k d low. kept k d low (passes k d low)

took_none : (done : List Done) → All Fine done → NoData (took (conversions done))
took_none done fine =
    let none = conversions_none done fine in
    record {
      pieces = sum_zero (λ (io : Io). io.pieces) (conversions done)
          (λ k d low. let z = (none k d low).pieces in omega (arith, z));
      copies = sum_zero (λ (io : Io). io.copies) (conversions done)
          (λ k d low. let z = (none k d low).copies in omega (arith, z));
    }

-- their text begins with two zeros
zeros_text : (io : Io) → NoData io → (others : List ℕ) × (io_text io ≡ codes "io 0 0" ++ others)
unfolding digits
zeros_text io none =
    let others = io.parities ∷ io.misses ∷ io.writes ∷ io.probes ∷ io.drops ∷ [] in
    (flat_map spaced others, λ i. codes "io" ++ flat_map spaced (none.pieces i ∷ none.copies i ∷ others))

pub no_data : ConversionsReadNoData
no_data text s done files run =
    let none = took_none done (runs_fine s _ done files run.run) in
    record {
      pieces = none.pieces;
      copies = none.copies;
      text = zeros_text (took (conversions done)) none;
    }
