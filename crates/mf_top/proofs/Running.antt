-- The phases of a script, run one after the other.
use Rattle.std.proofs.Common.{◌≡◌, ℕ, zero, suc, ◌+◌, ◌-◌, ◌<◌, ◌≤◌, List, [], ◌∷◌, ◌++◌, length, take, get_or}
use Rattle.std.proofs.Common.{Some, All, inl, inr, drop, refl, sym, ap, ◌∙◌, subst, arith, length-append}
use Rattle.std.specs.Prelude.{slice_get, slice_index_or, flat_map}
use Rattle.std.proofs.lemmas.Grind.{flat_map-append}
use Rattle.std.proofs.lemmas.List.{length-take, take_all, take-append-le, drop_more}
use Rattle.std.proofs.lemmas.List.Elements.{All-append}
use Rattle.std.proofs.lemmas.Option.{slice_get_within, get_or_from_slice_get}
use Rattle.std.proofs.Math.Seq.{take-suc}
use Rattle.mf_places.specs.declared.losses.LoseLine.{LoseLine}
use Rattle.mf_lines.specs.declared.parts.Command.{Command}
use Rattle.mf_lines.specs.declared.parts.Client.{Client}
use Rattle.mf_lines.specs.declared.parts.FileLine.{FileLine}
use Rattle.mf_lines.specs.declared.parts.Item.{Item}
use Rattle.mf_lines.specs.declared.parts.Item.TheVariants as item
use Rattle.mf_lines.specs.Meaning.{Script, phases_in}
use Rattle.mf_script.specs.Losses.{losses_of, phase_losses}
use Rattle.mf_script.specs.Phases.{clients_of, ticks_ahead, ticks_before}
use Rattle.mf_vault.specs.Facts.{Facts}
use Rattle.mf_vault.specs.Actor.{Actor}
use Rattle.mf_plain.specs.Resting.{Resting, AtRest}
use Rattle.mf_client.specs.declared.done.Done.{Done}
use Rattle.mf_client.specs.Clients.{commands_of}
use Rattle.mf_client.specs.Runs.{RunsFrom}
use Rattle.mf_crew.specs.Files.{HasPhase, RestsBy, AllRestBy}
use Rattle.mf_crew.specs.Alone.{first_actors}
use Rattle.mf_crew.specs.Live.{Ran, AllRan, IsPhase}
use Rattle.mf_top.specs.ScriptRun.{new_file, new_from, new_files, AreOfLines, RunsTo, IsScriptRun}
use Rattle.mf_script.specs.Limits.{in_clients, in_item, in_items}

-- ---- lists

one_more : {A : Type 0} (n : ℕ) (xs : List A) → (rest : List A) × (take (suc n) xs ≡ take n xs ++ rest)
one_more zero [] = ([], refl)
one_more (suc n) [] = ([], refl)
one_more zero (x ∷ xs) = (x ∷ [], refl)
one_more (suc n) (x ∷ xs) = let more = one_more n xs in (more.0, ap (λ l. x ∷ l) more.1)

-- ---- the files before the first phase

pub new_more : (s : Script) (n k : ℕ) (xs : List FileLine) (line : FileLine) → n + length xs ≡ k
    → new_from s n (xs ++ line ∷ []) ≡ new_from s n xs ++ new_file s k line ∷ []
new_more s n k [] line e = ap (λ j. new_file s j line ∷ []) (omega (arith, e))
new_more s n k (x ∷ xs) line e = ap (λ r. new_file s n x ∷ r) (new_more s (n + 1) k xs line (omega (arith, e)))

new_length : (s : Script) (n : ℕ) (xs : List FileLine) → length (new_from s n xs) ≡ length xs
new_length s n [] = refl
new_length s n (x ∷ xs) = ap suc (new_length s (n + 1) xs)

new_at : (s : Script) (n i : ℕ) (xs : List FileLine) (line : FileLine) (r : Resting) → slice_get xs i ≡ Some line
    → slice_get (new_from s n xs) i ≡ Some r → r ≡ new_file s (n + i) line
new_at s n i [] line r at is = absurd cc
new_at s n zero (x ∷ xs) line r at is =
    let same : x ≡ line = cc in
    let new : new_file s n x ≡ r = cc in
    let here : n ≡ n + 0 = omega arith in
    sym new ∙ ap (new_file s n) same ∙ ap (λ j. new_file s j line) here
new_at s n (suc i) (x ∷ xs) line r at is =
    let here : n + 1 + i ≡ n + suc i = omega arith in
    new_at s (n + 1) i xs line r at is ∙ ap (λ j. new_file s j line) here

-- one file more
pub new_next : (s : Script) (n : ℕ) (xs : List FileLine) (line : FileLine) (files : List Resting) (plain : Resting)
    (new : List Resting) → xs ≡ s.files → n < length xs → line ≡ slice_index_or xs n line
    → files ≡ new_from s 0 (take n s.files) → plain ≡ new_file s n line → new ≡ files ++ plain ∷ []
    → new ≡ new_from s 0 (take (n + 1) s.files)
new_next s n xs line files plain new are within at so_far one pushed =
    let here : n < length s.files = omega (arith, within, ap length are) in
    let next : suc n ≡ n + 1 = omega arith in
    let taken : take (suc n) s.files ≡ take n s.files ++ line ∷ [] =
    take-suc s.files n line here
    ∙ ap (λ l. take n s.files ++ l ∷ []) (ap (λ l. get_or l n line) (sym are) ∙ sym at) in
    pushed ∙ (λ i. so_far i ++ one i ∷ [])
    ∙ sym (new_more s 0 n (take n s.files) line (omega (arith, length-take n s.files)))
    ∙ ap (new_from s 0) (sym taken ∙ ap (λ k. take k s.files) next)

pub begins : (s : Script) (now : ℕ) → AllRestBy s 0 now (new_files s)
begins s now = record {
  count = new_length s 0 s.files;
  each = λ n line r at is.
      let here : 0 + n ≡ n = omega arith in
      let new : r ≡ new_file s n line = new_at s 0 n s.files line r at is ∙ ap (λ j. new_file s j line) here in
      subst (RestsBy s 0 now n line) (sym new)
      (record { book = refl; bytes = refl; losses = refl; born = omega arith });
}

-- ---- between two phases

-- the lose lines up to the next phase
more_losses : (s : Script) (n : ℕ) → (more : List LoseLine) × (losses_of s (suc n) ≡ losses_of s n ++ more)
more_losses s n =
    let ps = phases_in s.items in
    let more = one_more n ps in
    (flat_map phase_losses more.0, ap (flat_map phase_losses) more.1 ∙ flat_map-append phase_losses (take n ps) more.0)

-- the ticks only grow
ahead_grow : (items : List Item) (m k : ℕ) → m ≤ k → ticks_ahead items m ≤ ticks_ahead items k
ahead_grow [] m k low = omega arith
ahead_grow (item.Tick n ∷ items) m k low = omega (arith, ahead_grow items m k low)
ahead_grow (item.Phase cs ∷ items) zero k low = omega arith
ahead_grow (item.Phase cs ∷ items) (suc m) zero low = absurd (omega (arith, low))
ahead_grow (item.Phase cs ∷ items) (suc m) (suc k) low = ahead_grow items m k (omega (arith, low))

pub ticks_grow : (s : Script) (n : ℕ) → ticks_before s n ≤ ticks_before s (suc n)
ticks_grow s n = ahead_grow s.items (n - 1) (suc n - 1) (omega arith)

-- a front of a list is one of a longer list
front_more : (xs all more : List LoseLine) → take (length xs) all ≡ xs → take (length xs) (all ++ more) ≡ xs
front_more xs all more is =
    let within : length xs ≤ length all = omega (arith, ap length is, length-take (length xs) all) in
    take-append-le (length xs) all more within ∙ is

-- files that rest behind a phase rest before the next one
pub rest_on : (s : Script) (n now later : ℕ) (files : List Resting) → AllRestBy s n now files → now ≤ later
    → AllRestBy s (suc n) later files
rest_on s n now later files are on =
    let more = more_losses s n in
    record {
      count = are.count;
      each = λ k line r at is.
          let rests = are.each k line r at is in
          record {
            book = rests.book;
            bytes = rests.bytes;
            losses = ap (take (length r.losses)) more.1 ∙ front_more r.losses (losses_of s n) more.0 rests.losses;
            born = omega (arith, rests.born, on);
          };
    }

-- the files that are left are the script's, at rest
pub of_lines : (s : Script) (phases now : ℕ) (files all : List Resting) → AllRestBy s phases now files → files ≡ all
    → All AtRest all → AreOfLines s files
of_lines s phases now files all are same rest =
    let at_rest : All AtRest files = subst (All AtRest) (sym same) rest in
    record {
      count = are.count;
      each = λ n line r at is.
          let rests = are.each n line r at is in
          record {
            rest = subst AtRest (get_or_from_slice_get files n r r is) (at_rest n r (slice_get_within files n r is));
            book = rests.book;
            bytes = rests.bytes;
          };
    }

-- ---- phases and their clients

pub phases_pushed : (items : List Item) (x : Item) → length (phases_in (items ++ x ∷ []))
    ≡ length (phases_in items) + length (phases_in (x ∷ []))
phases_pushed [] x = omega arith
phases_pushed (item.Tick n ∷ items) x = phases_pushed items x
phases_pushed (item.Phase clients ∷ items) x = omega (arith, phases_pushed items x)

few_phases : (n : ℕ) (items : List Item) → length (phases_in (take n items)) ≤ length (phases_in items)
few_phases zero items = omega arith
few_phases (suc n) [] = omega arith
few_phases (suc n) (item.Tick t ∷ items) = few_phases n items
few_phases (suc n) (item.Phase clients ∷ items) = omega (arith, few_phases n items)

in_phases : List (List Client) → ℕ
in_phases [] = 0
in_phases (cs ∷ ps) = in_clients cs + in_phases ps

phases_are : (items : List Item) → in_phases (phases_in items) ≡ in_items items
unfolding in_phases in_items in_item
phases_are [] = refl
phases_are (item.Tick n ∷ items) = omega (arith, phases_are items)
phases_are (item.Phase clients ∷ items) = ap (λ n. in_clients clients + n) (phases_are items)

in_phases-push : (ps : List (List Client)) (cs : List Client) → in_phases (ps ++ cs ∷ []) ≡ in_phases ps + in_clients cs
unfolding in_phases
in_phases-push [] cs = omega arith
in_phases-push (x ∷ xs) cs = omega (arith, in_phases-push xs cs)

first_client : (cs : List Client) (none : Client) → none.commands ≡ []
    → length (get_or cs 0 none).commands ≤ in_clients cs
unfolding in_clients
first_client [] none e = omega (arith, ap length e)
first_client (c ∷ cs) none e = omega arith

runs_length : (s : Script) (p c k : ℕ) (commands : List Command) (before : List Actor) (done : List Done)
    (after : List Actor)
    → RunsFrom s p c k commands before done after → length done ≡ length commands
runs_length s p c k [] before done after h = ap length h.0
runs_length s p c k (x ∷ xs) before [] after h = absurd h
runs_length s p c k (x ∷ xs) before (d ∷ done) after h = ap suc (runs_length s p c (k + 1) xs h.0 done after h.2)

-- ---- how many commands a phase does

-- its commands are no more than those of its clients, one client after another
all_ran_few : (s : Script) (p c : ℕ) (files : List Facts) (clients : List Ran) → AllRan s p (c + 1) files clients
    → c + length clients ≡ length (clients_of s p)
    → length (flat_map (λ (r : Ran). r.done) clients) ≤ in_clients (drop c (clients_of s p))
unfolding in_clients
all_ran_few s p c files [] h e = omega arith
all_ran_few s p c files (r ∷ clients) h e =
    let cs = clients_of s p in
    let none : Client = record { commands = [] } in
    let here : c < length cs = omega (arith, e) in
    let back : c + 1 - 1 ≡ c = omega arith in
    let count : length r.done ≡ length (commands_of s p (c + 1)) =
    runs_length s p (c + 1) 1 (commands_of s p (c + 1)) _ r.done r.actors h.0 in
    let same : length (commands_of s p (c + 1)) ≡ length (get_or cs c none).commands =
    ap (λ k. length (get_or cs k none).commands) back in
    let split : in_clients (drop c cs) ≡ length (get_or cs c none).commands + in_clients (drop (c + 1) cs) =
    ap in_clients (drop_more cs c none here) in
    let more = all_ran_few s p (c + 1) files clients h.1 (omega (arith, e)) in
    omega (arith, count, same, split, more, length-append r.done (flat_map (λ (r : Ran). r.done) clients))

phase_few : (s : Script) (p now : ℕ) (before after : List Resting) (done : List Done)
    → IsPhase s p now before done after → length done ≤ in_clients (clients_of s p)
phase_few s p now before after done (inl h) =
    let none : Client = record { commands = [] } in
    omega (
      arith,
      runs_length s p 1 1 (commands_of s p 1) (first_actors s p now before) done h.actors h.runs,
      first_client (clients_of s p) none refl,
    )
phase_few s p now before after done (inr h) =
    let none : 0 + length h.clients ≡ length (clients_of s p) = omega (arith, h.count) in
    let few = all_ran_few s p 0 h.files h.clients h.ran none in
    omega (arith, ap length h.in_order, few)

run_few : (s : Script) (n : ℕ) (done : List Done) (files : List Resting) → RunsTo s n done files
    → n ≤ length (phases_in s.items) → length done ≤ in_phases (take n (phases_in s.items))
unfolding in_phases
run_few s zero done files h within = omega (arith, ap length h.0)
run_few s (suc n) done files h within =
    let ps = phases_in s.items in
    let before = run_few s n h.0 h.2 h.3 (omega (arith, within)) in
    let back : suc n - 1 ≡ n = omega arith in
    let few = phase_few s (suc n) (ticks_before s (suc n)) h.2 files h.1 h.4 in
    let same : in_clients (clients_of s (suc n)) ≡ in_clients (get_or ps n []) =
    ap (λ k. in_clients (get_or ps k [])) back in
    let taken = ap in_phases (take-suc ps n [] (omega (arith, within))) ∙ in_phases-push (take n ps) (get_or ps n []) in
    omega (arith, before, few, same, taken, ap length h.5, length-append h.0 h.1)

pub plain_few : (s : Script) (done : List Done) (files : List Resting)
    → RunsTo s (length (phases_in s.items)) done files
    → in_items s.items ≤ 1024 → length done ≤ 4096
plain_few s done files h few =
    let all = take_all (length (phases_in s.items)) (phases_in s.items) (omega arith) in
    omega (
      arith,
      run_few s (length (phases_in s.items)) done files h
          (omega arith),
      ap in_phases all,
      phases_are s.items,
      few,
    )

-- ---- the phases in turn

pub has_phase : (s : Script) (n : ℕ) → n < length (phases_in s.items) → HasPhase s (n + 1)
has_phase s n within = (omega arith, omega (arith, within))

-- one phase more
pub run_next : (s : Script) (n : ℕ) (P : Done → Type 0) (done more new : List Done) (files mid : List Resting) (now : ℕ)
    → now ≡ ticks_before s (n + 1) → RunsTo s n done files → IsPhase s (n + 1) now files more mid
    → AllRestBy s (n + 1) now mid → All P done → All P more → new ≡ done ++ more
    → RunsTo s (n + 1) new mid × AllRestBy s (n + 1) (ticks_before s (n + 1)) mid × All P new
run_next s n P done more new files mid now at so_far phase are small next_small is =
    let next : suc n ≡ n + 1 = omega arith in
    let then : IsPhase s (n + 1) (ticks_before s (n + 1)) files more mid =
    subst (λ k. IsPhase s (n + 1) k files more mid) at phase in
    let mine : IsPhase s (suc n) (ticks_before s (suc n)) files more mid =
    subst (λ k. IsPhase s k (ticks_before s k) files more mid) (sym next) then in (
      subst (λ k. RunsTo s k new mid) next (done, more, files, so_far, mine, is),
      subst (λ k. AllRestBy s (n + 1) k mid) at are,
      subst (All P) (sym is) (All-append P done more small next_small),
    )

pub run_ends : (s : Script) (n : ℕ) (done : List Done) (files : List Resting) → n ≡ length (phases_in s.items)
    → RunsTo s n done files → IsScriptRun s done files
run_ends s n done files e runs = subst (λ k. RunsTo s k done files) e runs

-- one item more that is counted
pub count_next : (items xs : List Item) (n : ℕ) (x : Item) (count one : ℕ) → xs ≡ items → n < length xs
    → x ≡ slice_index_or xs n x → count ≡ length (phases_in (take n items)) → one ≡ length (phases_in (x ∷ []))
    → count + one ≡ length (phases_in (take (n + 1) items))
count_next items xs n x count one are within at so_far is =
    let here : n < length items = omega (arith, within, ap length are) in
    let next : suc n ≡ n + 1 = omega arith in
    let taken : take (n + 1) items ≡ take n items ++ x ∷ [] =
    ap (λ k. take k items) (sym next) ∙ take-suc items n x here
    ∙ ap (λ l. take n items ++ l ∷ []) (ap (λ l. get_or l n x) (sym are) ∙ sym at) in
    omega (arith, so_far, is, phases_pushed (take n items) x, ap (λ l. length (phases_in l)) taken)

pub count_fits : (items : List Item) (n count : ℕ) → count ≡ length (phases_in (take n items))
    → length (phases_in items) ≤ 1024 → count ≤ 1024
count_fits items n count e few = omega (arith, e, few, few_phases n items)
