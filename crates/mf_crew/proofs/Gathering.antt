-- From what came of all clients to the phase.
use Rattle.std.proofs.Common.{◌≡◌, ℕ, zero, suc, ◌+◌, ◌<◌, ◌≤◌, Bool, true, false, List, [], ◌∷◌, ◌++◌, length, map}
use Rattle.std.proofs.Common.{get_or}
use Rattle.std.proofs.Common.{drop, take, Some, All, IfOk, Ok, Err, refl, sym, ap, ◌∙◌, subst, arith, cond}
use Rattle.std.specs.Prelude.{flat_map, slice_get}
use Rattle.std.proofs.lemmas.List.{length-map, take_all}
use Rattle.std.proofs.lemmas.List.Elements.{All-nil, All-cons, All-append}
use Rattle.std.proofs.Math.ListN.{get_or-map}
use Rattle.mf_machine.specs.declared.view.View.{View}
use Rattle.mf_machine.specs.Steps.{joined}
use Rattle.mf_machine.specs.Words.{whole_share}
use Rattle.mf_places.specs.declared.losses.LoseLine.{LoseLine}
use Rattle.mf_lines.specs.declared.parts.FileLine.{FileLine}
use Rattle.mf_lines.specs.Meaning.{Script}
use Rattle.mf_script.specs.Losses.{losses_of}
use Rattle.mf_vault.specs.Actor.{Actor}
use Rattle.mf_vault.specs.Conditions.{IsIdle}
use Rattle.mf_vault.specs.Facts.{Facts}
use Rattle.mf_plain.specs.Resting.{Resting, facts_of}
use Rattle.mf_plain.specs.Alone.{first_actor}
use Rattle.mf_shared.specs.declared.seat.Seat.{Seat}
use Rattle.mf_shared.specs.declared.shared.Shared.{Shared}
use Rattle.mf_shared.specs.Left.{LeftBy}
use Rattle.mf_shared.specs.Seats.{let_go, view_of}
use Rattle.mf_client.specs.declared.done.Done.{Done}
use Rattle.mf_client.specs.Clients.{AreFiles, IsFileOf, facts_in}
use Rattle.mf_script.specs.Phases.{clients_of}
use Rattle.mf_client.specs.Runs.{IsSmall}
use Rattle.mf_crew.specs.declared.jobs.Job.{Job}
use Rattle.mf_crew.specs.declared.jobs.Report.{Report}
use Rattle.mf_crew.specs.Alone.{first_actors}
use Rattle.mf_crew.specs.Files.{HasPhase, AllRestBy}
use Rattle.mf_crew.specs.Live.{Ran, AllRan, RunsLive, AreLeft, share_of, new_view, new_actor, untabled, views_of}
use Rattle.mf_crew.specs.Live.{join_each, join_all}
use Rattle.mf_crew.specs.Parts.{AreOf, AreSeatsOf, IsSeatOf, IsReport, AreAllOf, NoneFailed, Came, done_in}
use Rattle.mf_crew.specs.Parts.{take_in}
use Rattle.mf_crew.specs.Parts.{AreJobs, IsRunnable, actors_in, facts_of_all, views_in}
use Rattle.mf_crew.proofs.Zips.{zip_length, zip_map}
use Rattle.mf_crew.proofs.Sharing.{halved}
use Rattle.mf_crew.proofs.Joining.{share_let_go, join_let_go, join_length, join_each-all}
use Rattle.mf_crew.proofs.Staying.{shares, runs_shares}
use Rattle.mf_crew.proofs.Phased.{mapped, map_at, finds_files}

-- ---- the seats of one client

seat_views : (actors : List Actor) (seats : List Seat) → AreSeatsOf actors seats
    → views_in seats ≡ map (λ (a : Actor). let_go a.view) actors
seat_views actors seats are =
    sym (zip_map IsSeatOf (λ (a : Actor). let_go a.view) view_of actors seats (λ a seat x. sym x.view) are)

-- they are of the files that its actors had
seats_of_files : (actors : List Actor) (seats : List Seat) (files : List Shared) → AreSeatsOf actors seats
    → facts_in actors ≡ facts_of_all files → AreOf seats files
seats_of_files [] [] [] are e = tt
seats_of_files [] [] (f ∷ files) are e = absurd (omega (arith, ap length e))
seats_of_files [] (s ∷ seats) files are e = absurd are
seats_of_files (a ∷ actors) [] files are e = absurd are
seats_of_files (a ∷ actors) (s ∷ seats) [] are e = absurd (omega (arith, ap length e))
seats_of_files (a ∷ actors) (s ∷ seats) (f ∷ files) are e = (
  are.0.of f (sym (ap (λ l. get_or l 0 a.facts) e)),
  seats_of_files actors seats files are.1 (ap (drop 1) e),
)

seat_shares : (t : ℕ) (files : List Facts) (actors : List Actor) (seats : List Seat) → AreSeatsOf actors seats
    → shares actors ≡ shares (map (new_actor t) files) → All (λ (w : View). w.share ≡ t) (views_in seats)
seat_shares t files [] [] are e = All-nil (λ (w : View). w.share ≡ t)
seat_shares t files [] (s ∷ seats) are e = absurd are
seat_shares t files (a ∷ actors) [] are e = absurd are
seat_shares t [] (a ∷ actors) (s ∷ seats) are e = absurd (omega (arith, ap length e))
seat_shares t (f ∷ files) (a ∷ actors) (s ∷ seats) are e =
    All-cons (λ (w : View). w.share ≡ t) (view_of s) (views_in seats)
    (ap (λ (w : View). w.share) are.0.view ∙ share_let_go a.view ∙ ap (λ l. get_or l 0 0) e)
    (seat_shares t files actors seats are.1 (ap (drop 1) e))

pub new_facts : (t : ℕ) (files : List Facts) → facts_in (map (new_actor t) files) ≡ files
new_facts t [] = refl
new_facts t (f ∷ files) = ap (λ l. f ∷ l) (new_facts t files)

-- ---- all clients

-- what came of each client behind the first k
abbrev pub AreReports : Script → (phase k : ℕ) → List Facts → List Came → Type 0
AreReports s phase k files rs = (i : ℕ) (d : Came) → i < length rs
    → IfOk (get_or rs i d) (λ r. IsReport s phase (k + i + 1) (map (new_actor (share_of (k + i + 1))) files) r)

head_is : (s : Script) (phase k : ℕ) (files : List Facts) (r : Report) (rs : List Came)
    → AreReports s phase k files (Ok r ∷ rs) → IsReport s phase (k + 1) (map (new_actor (share_of (k + 1))) files) r
head_is s phase k files r rs are =
    let here : k + 0 + 1 ≡ k + 1 = omega arith in
    subst (λ (n : ℕ). IsReport s phase n (map (new_actor (share_of n)) files) r) here (are 0 (Ok r) (omega arith))

tail_are : (s : Script) (phase k : ℕ) (files : List Facts) (r : Came) (rs : List Came)
    → AreReports s phase k files (r ∷ rs) → AreReports s phase (k + 1) files rs
tail_are s phase k files r rs are = λ i d low.
    let here : k + suc i + 1 ≡ k + 1 + i + 1 = omega arith in
    subst (λ (n : ℕ). IfOk (get_or rs i d) (λ r. IsReport s phase n (map (new_actor (share_of n)) files) r)) here
    (are (suc i) d (omega (arith, low)))

pub all_of_files : (s : Script) (phase k : ℕ) (shareds : List Shared) (rs : List Came)
    → AreReports s phase k (facts_of_all shareds) rs → AreAllOf shareds rs
all_of_files s phase k shareds [] are = tt
all_of_files s phase k shareds (Ok r ∷ rs) are =
    let one = head_is s phase k (facts_of_all shareds) r rs are in (
      seats_of_files one.actors r.seats.items shareds one.seats
          (one.facts ∙ new_facts (share_of (k + 1)) (facts_of_all shareds)),
      all_of_files s phase (k + 1) shareds rs (tail_are s phase k (facts_of_all shareds) (Ok r) rs are),
    )
all_of_files s phase k shareds (Err e ∷ rs) are =
    all_of_files s phase (k + 1) shareds rs (tail_are s phase k (facts_of_all shareds) (Err e) rs are)

record Collected (s : Script) (phase k : ℕ) (files : List Facts) (views : List View) (rs : List Came) : Type 0 where
  runs : List Ran
  count : length runs ≡ length rs
  ran : AllRan s phase (k + 1) files runs
  done : done_in rs ≡ flat_map (λ (r : Ran). r.done) runs
  views_are : take_in views rs ≡ join_all views runs
  small : All (λ (d : Done). IsSmall d.io) (done_in rs)

collect : (s : Script) (phase k : ℕ) (files : List Facts) (views : List View) (rs : List Came) → NoneFailed rs
    → AreReports s phase k files rs → Collected s phase k files views rs
collect s phase k files views [] none are = record {
  runs = [];
  count = refl;
  ran = tt;
  done = refl;
  views_are = refl;
  small = All-nil (λ (d : Done). IsSmall d.io);
}
collect s phase k files views (Ok r ∷ rs) none are =
    let one = head_is s phase k files r rs are in
    let more = collect s phase (k + 1) files (join_each views (views_in r.seats.items)) rs none
    (tail_are s phase k files (Ok r) rs are) in
    let same : join_each views (views_in r.seats.items) ≡ join_each views (views_of one.actors) =
    ap (join_each views) (seat_views one.actors r.seats.items one.seats) ∙ join_let_go views one.actors in
    record {
      runs = (record { done = r.done.items; actors = one.actors }) ∷ more.runs;
      count = ap suc more.count;
      ran = (one.runs, more.ran);
      done = ap (λ l. r.done.items ++ l) more.done;
      views_are = more.views_are ∙ ap (λ l. join_all l more.runs) same;
      small = All-append (λ (d : Done). IsSmall d.io) r.done.items (done_in rs) one.small more.small;
    }
collect s phase k files views (Err e ∷ rs) none are = absurd none

-- the shares come together again
pub all_shares : (s : Script) (phase k whole : ℕ) (files : List Facts) (views : List View) (rs : List Came)
    → NoneFailed rs → AreReports s phase k files rs → k + length rs ≤ 8 → length views ≡ length files
    → All (λ (v : View). v.share + share_of k ≡ whole) views
    → All (λ (v : View). v.share + share_of (k + length rs) ≡ whole) (take_in views rs)
all_shares s phase k whole files views [] none are few long had =
    let here : k ≡ k + 0 = omega arith in
    subst (λ (n : ℕ). All (λ (v : View). v.share + share_of n ≡ whole) views) here had
all_shares s phase k whole files views (Ok r ∷ rs) none are few long had =
    let one = head_is s phase k files r rs are in
    let t = share_of (k + 1) in
    let half = halved k (omega (arith, few)) in
    let seats = seat_shares t files one.actors r.seats.items one.seats
    (runs_shares s phase (k + 1) (map (new_actor t) files) r.done.items one.actors one.runs) in
    let many : length (views_in r.seats.items) ≡ length views =
    length-map r.seats.items view_of ∙ sym (zip_length IsSeatOf one.actors r.seats.items one.seats)
    ∙ sym (length-map one.actors (λ (a : Actor). a.facts)) ∙ ap length (one.facts ∙ new_facts t files) ∙ sym long in
    let step : (v w : View) → v.share + share_of k ≡ whole → w.share ≡ t → (joined v w).share + t ≡ whole =
    λ v w x y. omega (arith, x, y, half.more) in
    let next = join_each-all (λ (v : View). v.share + share_of k ≡ whole) (λ (w : View). w.share ≡ t)
    (λ (v : View). v.share + t ≡ whole) views (views_in r.seats.items) many step had seats in
    let here : k + 1 + length rs ≡ k + suc (length rs) = omega arith in
    subst (λ (n : ℕ). All (λ (v : View). v.share + share_of n ≡ whole)
    (take_in (join_each views (views_in r.seats.items)) rs)) here
    (all_shares s phase (k + 1) whole files (join_each views (views_in r.seats.items)) rs none
    (tail_are s phase k files (Ok r) rs are) (omega (arith, few))
    (join_length views (views_in r.seats.items) ∙ long) next)
all_shares s phase k whole files views (Err e ∷ rs) none are few long had = absurd none

-- ---- the files

pub map_twice : {A B C : Type 0} (f : A → B) (g : B → C) (xs : List A) → map g (map f xs) ≡ map (λ x. g (f x)) xs
map_twice f g [] = refl
map_twice f g (x ∷ xs) = ap (λ l. g (f x) ∷ l) (map_twice f g xs)

-- the facts of these files, whichever table they are found in
abbrev pub Finds : Script → (phase now : ℕ) → List Resting → List Facts → Type 0
Finds s phase now before files = map untabled files ≡ map (λ r. facts_of r now (losses_of s phase)) before

tabled : (s : Script) (phase n : ℕ) (line : FileLine) (f : Facts) → IsFileOf s phase n line (untabled f)
    → IsFileOf s phase n line f
tabled s phase n line f is = record {
  family = record { shape = is.family.shape; points = is.family.points };
  chunk = is.chunk;
  file = is.file;
  bytes = is.bytes;
  losses = is.losses;
}

pub live_files : (s : Script) (phase now : ℕ) (before : List Resting) (files : List Facts)
    → AllRestBy s phase now before → Finds s phase now before files → AreFiles s phase files
live_files s phase now before files are finds =
    let firsts : facts_in (first_actors s phase now before) ≡ map untabled files =
    map_twice (λ r. first_actor r now (losses_of s phase)) (λ (a : Actor). a.facts) before ∙ sym finds in
    let all = subst (AreFiles s phase) firsts (finds_files s phase now before are) in
    record {
      count = sym (length-map files untabled) ∙ all.count;
      each = λ n line f at is.
          tabled s phase n line f (all.each n line (untabled f) at (map_at untabled files n f is));
    }

pub new_idle : (t : ℕ) (files : List Facts) → All IsIdle (map (new_actor t) files)
new_idle t [] = All-nil IsIdle
new_idle t (f ∷ files) =
    All-cons IsIdle (new_actor t f) (map (new_actor t) files) (record { right = refl; work = refl }) (new_idle t files)

-- what is left of the file of a number
record LeftAt (files : List Facts) (n : ℕ) (r : Resting) : Type 0 where
  facts : Facts
  view : View
  at : slice_get files n ≡ Some facts
  left : LeftBy facts view r

left_at : (files : List Facts) (views : List View) (after : List Resting) (n : ℕ) (r : Resting)
    → AreLeft files views after → slice_get after n ≡ Some r → LeftAt files n r
left_at [] [] [] n r are at = absurd cc
left_at [] [] (x ∷ after) n r are at = absurd are
left_at [] (v ∷ views) after n r are at = absurd are
left_at (f ∷ files) [] after n r are at = absurd are
left_at (f ∷ files) (v ∷ views) [] n r are at = absurd are
left_at (f ∷ files) (v ∷ views) (x ∷ after) zero r are at =
    let same : x ≡ r = cc in record { facts = f; view = v; at = refl; left = subst (LeftBy f v) same are.0 }
left_at (f ∷ files) (v ∷ views) (x ∷ after) (suc n) r are at =
    let more = left_at files views after n r are.1 at in
    record { facts = more.facts; view = more.view; at = more.at; left = more.left }

left_count : (files : List Facts) (views : List View) (after : List Resting) → AreLeft files views after
    → length after ≡ length files
left_count [] [] [] are = refl
left_count [] [] (x ∷ after) are = absurd are
left_count [] (v ∷ views) after are = absurd are
left_count (f ∷ files) [] after are = absurd are
left_count (f ∷ files) (v ∷ views) [] are = absurd are
left_count (f ∷ files) (v ∷ views) (x ∷ after) are = ap suc (left_count files views after are.1)

low : (b : Bool) (m n now : ℕ) → m ≤ now → n ≤ now → cond b m n ≤ now
low true m n now x y = x
low false m n now x y = y

pub live_rest : (s : Script) (phase now : ℕ) (before : List Resting) (files : List Facts) (views : List View)
    (after : List Resting) → AllRestBy s phase now before → Finds s phase now before files
    → AreLeft files views after → AllRestBy s phase now after
live_rest s phase now before files views after are finds left = record {
  count = left_count files views after left ∙ sym (length-map files untabled) ∙ ap length finds
      ∙ length-map before (λ r. facts_of r now (losses_of s phase)) ∙ are.count;
  each = λ n line r at is.
      let was = left_at files views after n r left is in
      let had = mapped (λ r. facts_of r now (losses_of s phase)) before n (untabled was.facts)
      (ap (λ l. slice_get l n) (sym finds) ∙ map_at untabled files n was.facts was.at) in
      let rested = are.each n line had.before at had.at in
      let same = was.left.same in
      let none : 0 ≤ now = omega arith in
      let all : now ≤ now = omega arith in
      let born : was.facts.born ≤ now =
      subst (λ (f : Facts). f.born ≤ now) had.is (low _ now had.before.born now all rested.born) in
      let lines : r.losses ≡ losses_of s phase = same.losses ∙ sym (ap (λ (f : Facts). f.losses) had.is) in
      record {
        book = same.book ∙ sym (ap (λ (f : Facts). f.book) had.is) ∙ rested.book;
        bytes = same.bytes ∙ sym (ap (λ (f : Facts). f.bytes) had.is) ∙ rested.bytes;
        losses = subst (λ (l : List LoseLine). take (length l) (losses_of s phase) ≡ l) (sym lines)
            (take_all (length (losses_of s phase)) (losses_of s phase) (omega arith));
        born = subst (λ (b : ℕ). b ≤ now) (sym same.born) (low _ 0 was.facts.born now none born);
      };
}

-- ---- the jobs

some_of : {X : Type 0} (xs : List X) (i : ℕ) → i < length xs → X
some_of [] i within = absurd (omega (arith, within))
some_of (x ∷ xs) i within = x

pub runnable : {R : Type 0} (s : Script) (phase now n : ℕ) (before : List Resting) (files : List Facts)
    (jobs : List (Job R)) → HasPhase s phase → n ≡ length (clients_of s phase) → AllRestBy s phase now before
    → Finds s phase now before files → length jobs ≡ n → AreJobs files jobs → All (λ job. IsRunnable s phase job) jobs
runnable s phase now n before files jobs has clients are finds long all = λ i d within.
    let is = all i d within in
    let share = share_of (i + 1) in
    record {
      client = record {
        phases = has;
        clients = (omega (arith, is.number), omega (arith, is.number, within, long, clients));
      };
      files = subst (λ (l : List Actor). AreFiles s phase (facts_in l)) (sym is.actors)
          (subst (AreFiles s phase) (sym (new_facts share files)) (live_files s phase now before files are finds));
      idle = subst (All IsIdle) (sym is.actors) (new_idle share files);
    }

pub reports_are : {R : Type 0} (s : Script) (phase : ℕ) (files : List Facts) (jobs : List (Job R)) (rs : List Came)
    → length rs ≡ length jobs → AreJobs files jobs
    → ((i : ℕ) (d : Came) (e : Job R) → i < length jobs → IfOk (get_or rs i d)
    (λ r. IsReport s phase (get_or jobs i e).client (actors_in (get_or jobs i e)) r))
    → AreReports s phase 0 files rs
reports_are {R = R} s phase files jobs rs long all each = λ i d low.
    let within : i < length jobs = omega (arith, low, long) in
    let e : Job R = some_of jobs i within in
    let is = all i e within in
    let here : i + 1 ≡ 0 + i + 1 = omega arith in
    subst (λ (n : ℕ). IfOk (get_or rs i d) (λ r. IsReport s phase n (map (new_actor (share_of n)) files) r)) here
    (subst (λ (l : List Actor). IfOk (get_or rs i d) (λ r. IsReport s phase (i + 1) l r)) is.actors
    (subst (λ (n : ℕ). IfOk (get_or rs i d) (λ r. IsReport s phase n (actors_in (get_or jobs i e)) r)) is.number
    (each i d e within)))

new_shares : (t u : ℕ) (files : List Facts) → All (λ (v : View). v.share + u ≡ t + u) (map (new_view t) files)
new_shares t u [] = All-nil (λ (v : View). v.share + u ≡ t + u)
new_shares t u (f ∷ files) =
    All-cons (λ (v : View). v.share + u ≡ t + u) (new_view t f) (map (new_view t) files) refl (new_shares t u files)

-- the last seats have the whole share again
pub last_whole : (s : Script) (phase n : ℕ) (files : List Facts) (dealt : List View) (seats : List Seat)
    (rs : List Came) → n ≤ 8 → length rs ≡ n → NoneFailed rs → AreReports s phase 0 files rs
    → dealt ≡ map (new_view (share_of n)) files → views_in seats ≡ take_in dealt rs
    → All (λ (seat : Seat). (view_of seat).share ≡ whole_share) seats
last_whole s phase n files dealt seats rs few long none are new joins = λ i d within.
    let firsts = map (new_view (share_of n)) files in
    let all = all_shares s phase 0 (share_of n + share_of 0) files firsts rs none are (omega (arith, few, long))
    (length-map files (new_view (share_of n))) (new_shares (share_of n) (share_of 0) files) in
    let these = subst (All (λ (v : View). v.share + share_of (0 + length rs) ≡ share_of n + share_of 0))
    (sym (joins ∙ ap (λ l. take_in l rs) new)) all in
    let many : i < length (views_in seats) = omega (arith, within, length-map seats view_of) in
    let one = subst (λ (v : View). v.share + share_of (0 + length rs) ≡ share_of n + share_of 0)
    (get_or-map view_of seats i d) (these i (view_of d) many) in
    let count : 0 + length rs ≡ n = omega (arith, long) in
    let same : share_of (0 + length rs) ≡ share_of n = ap share_of count in
    omega (arith, one, same)

-- ---- the phase

pub live_ran : (s : Script) (phase now : ℕ) (before after : List Resting) (files : List Facts) (n : ℕ)
    (views : List View) (rs : List Came) (done : List Done) → n ≡ length (clients_of s phase) → 1 < n
    → Finds s phase now before files → length rs ≡ n → NoneFailed rs → AreReports s phase 0 files rs
    → views ≡ take_in (map (new_view (share_of n)) files) rs → done ≡ done_in rs → AreLeft files views after
    → RunsLive s phase now before done after × All (λ (d : Done). IsSmall d.io) done
live_ran s phase now before after files n views rs done clients many finds long none are joins is left =
    let all = collect s phase 0 files (map (new_view (share_of n)) files) rs none are in
    let count : length all.runs ≡ n = all.count ∙ long in
    let behind = subst (λ (l : List View). AreLeft files l after)
    (joins ∙ all.views_are ∙ ap (λ (k : ℕ). join_all (map (new_view (share_of k)) files) all.runs) (sym count))
    left in
    let one : 0 + 1 ≡ 1 = omega arith in (
      record {
        many = subst (λ (k : ℕ). 1 < k) clients many;
        files = files;
        found = finds;
        clients = all.runs;
        count = count ∙ clients;
        ran = subst (λ (k : ℕ). AllRan s phase k files all.runs) one all.ran;
        in_order = is ∙ all.done;
        left = behind;
      },
      subst (All (λ (d : Done). IsSmall d.io)) (sym is) all.small,
    )
