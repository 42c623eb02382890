-- The steps of the loops over files and clients.
use Rattle.std.proofs.Common.{◌≡◌, ℕ, zero, suc, ◌+◌, ◌-◌, ◌/◌, ◌<◌, ◌≤◌, List, [], ◌∷◌, ◌++◌, length, map, get_or, set}
use Rattle.std.proofs.Common.{take, drop, All, Ok, refl, sym, ap, ◌∙◌, subst, arith, append_assoc, inl, inr}
use Rattle.std.proofs.lemmas.List.{length-map, length-take, length-drop, map-append, map-set, get_or_default}
use Rattle.std.proofs.lemmas.List.{get_or-drop}
use Rattle.std.proofs.lemmas.Bool.{cases_lt}
use Rattle.std.proofs.lemmas.List.{append-nil, take_all}
use Rattle.std.proofs.lemmas.List.Elements.{All-rest}
use Rattle.std.proofs.Math.ListN.{get_or-map}
use Rattle.std.proofs.Math.Seq.{take-suc}
use Rattle.mf_machine.specs.declared.view.View.{View}
use Rattle.mf_machine.specs.Steps.{joined, old_half, new_half}
use Rattle.mf_machine.specs.Words.{whole_share}
use Rattle.mf_places.specs.declared.losses.LoseLine.{LoseLine}
use Rattle.mf_vault.specs.Actor.{Actor}
use Rattle.mf_vault.specs.Facts.{Facts}
use Rattle.mf_plain.specs.Resting.{Resting, facts_of}
use Rattle.mf_shared.specs.declared.seat.Seat.{Seat}
use Rattle.mf_shared.specs.declared.shared.Shared.{Shared}
use Rattle.mf_shared.specs.Left.{LeftBy}
use Rattle.mf_shared.specs.Seats.{IsOf, entering, view_of}
use Rattle.mf_shared.specs.Shared.{facts_in as facts_at}
use Rattle.mf_client.specs.declared.done.Done.{Done}
use Rattle.mf_client.proofs.Halves.{front_set, behind_front}
use Rattle.mf_crew.specs.declared.jobs.Job.{Job}
use Rattle.mf_crew.specs.declared.jobs.Report.{Report}
use Rattle.mf_crew.specs.Live.{AreLeft, share_of, new_view, new_actor, untabled, join_each}
use Rattle.mf_crew.specs.Parts.{AreOf, AreNew, AreSeatsOf, IsSeatOf, AreAllOf, NoneFailed, Came, done_in, take_in}
use Rattle.mf_crew.specs.Parts.{AreJobs, IsJob, actors_in, facts_of_all, views_in}
use Rattle.mf_crew.proofs.Zips.{zip_at, zip_length, zip_push, zip_set}
use Rattle.mf_crew.proofs.Sharing.{halved}
use Rattle.mf_crew.proofs.Joining.{join_push}

-- ---- the seats of accesses

pub seats_push : (actors now : List Actor) (seats new : List Seat) (a : Actor) (seat : Seat) → AreSeatsOf actors seats
    → IsSeatOf a seat → now ≡ actors ++ a ∷ [] → new ≡ seats ++ seat ∷ [] → AreSeatsOf now new
seats_push actors now seats new a seat are one more is =
    subst (λ (l : List Actor). AreSeatsOf l new) (sym more)
    (subst (AreSeatsOf (actors ++ a ∷ [])) (sym is) (zip_push IsSeatOf actors seats a seat are one))

-- ---- files at rest among many actors

pub record Spread (now : ℕ) (losses : List LoseLine) (plains : List Resting) (shareds : List Shared) (seats : List Seat)
    : Type 0 where
  pub of : AreOf seats shareds
  pub found : map (λ s. untabled (facts_at s)) shareds ≡ map (λ r. facts_of r now losses) plains
  pub new : AreNew 0 (facts_of_all shareds) seats

pub spread_none : (now : ℕ) (losses : List LoseLine) (shareds : List Shared) (seats : List Seat) → shareds ≡ []
    → seats ≡ [] → Spread now losses [] shareds seats
spread_none now losses shareds seats e f =
    subst (λ (l : List Shared). Spread now losses [] l seats) (sym e)
    (subst (Spread now losses [] []) (sym f) (record { of = tt; found = refl; new = refl }))

pub spread_more : (now : ℕ) (losses : List LoseLine) (plains : List Resting) (shareds others : List Shared)
    (seats more : List Seat) (r : Resting) (s : Shared) (seat : Seat) → Spread now losses plains shareds seats
    → IsOf seat s → untabled (facts_at s) ≡ facts_of r now losses → view_of seat ≡ new_view whole_share (facts_at s)
    → others ≡ shareds ++ s ∷ [] → more ≡ seats ++ seat ∷ [] → Spread now losses (plains ++ r ∷ []) others more
spread_more now losses plains shareds others seats more r s seat so_far of found view e f =
    let last : map view_of (seats ++ seat ∷ []) ≡ map (new_view (share_of 0)) (facts_of_all (shareds ++ s ∷ [])) =
    map-append view_of seats (seat ∷ [])
    ∙ (λ i. so_far.new i ++ view i ∷ [])
    ∙ sym (map-append (new_view (share_of 0)) (facts_of_all shareds) (facts_at s ∷ []))
    ∙ ap (map (new_view (share_of 0))) (sym (map-append facts_at shareds (s ∷ []))) in
    subst (λ (l : List Shared). Spread now losses (plains ++ r ∷ []) l more) (sym e)
    (subst (Spread now losses (plains ++ r ∷ []) (shareds ++ s ∷ [])) (sym f) (record {
      of = zip_push IsOf seats shareds seat s so_far.of of;
      found = map-append (λ x. untabled (facts_at x)) shareds (s ∷ [])
          ∙ (λ i. so_far.found i ++ found i ∷ [])
          ∙ sym (map-append (λ x. facts_of x now losses) plains (r ∷ []));
      new = last;
    }))

-- ---- a client's actors

take_long : {X : Type 0} (xs : List X) (i : ℕ) → i < length xs → length (take i xs) ≡ i
take_long xs i within = omega (arith, length-take i xs, within)

-- the first i seats have given half of their shares
pub record Splits (behind i : ℕ) (shareds : List Shared) (seats : List Seat) (actors : List Actor) : Type 0 where
  pub of : AreOf seats shareds
  pub views : views_in seats ≡ take i (map (new_view (share_of (behind + 1))) (facts_of_all shareds))
      ++ drop i (map (new_view (share_of behind)) (facts_of_all shareds))
  pub actors_are : actors ≡ take i (map (new_actor (share_of (behind + 1))) (facts_of_all shareds))

pub splits_none : (behind : ℕ) (shareds : List Shared) (seats : List Seat) (actors : List Actor) → AreOf seats shareds
    → AreNew behind (facts_of_all shareds) seats → actors ≡ [] → Splits behind 0 shareds seats actors
splits_none behind shareds seats actors of new none = record { of = of; views = new; actors_are = none }

file_count : (shareds : List Shared) → length (facts_of_all shareds) ≡ length shareds
file_count shareds = length-map shareds facts_at

-- the seat at i, and the file at i
pub split_of : (seats : List Seat) (shareds : List Shared) (i : ℕ) (seat : Seat) (s : Shared) → AreOf seats shareds
    → i < length shareds → seat ≡ get_or seats i seat → s ≡ get_or shareds i s → IsOf seat s
split_of seats shareds i seat s of within e f =
    subst (λ (x : Seat). IsOf x s) (sym e)
    (subst (IsOf (get_or seats i seat)) (sym f) (zip_at IsOf seats shareds i seat s of within))

pub split_view : (behind i : ℕ) (shareds : List Shared) (seats : List Seat) (actors : List Actor) (seat : Seat)
    (s : Shared) → Splits behind i shareds seats actors → i < length shareds → seat ≡ get_or seats i seat
    → s ≡ get_or shareds i s → view_of seat ≡ new_view (share_of behind) (facts_at s)
split_view behind i shareds seats actors seat s so_far within e f =
    let old = new_view (share_of behind) in
    let files = facts_of_all shareds in
    let front = map (new_view (share_of (behind + 1))) files in
    let back = map old files in
    let long : i < length front = omega (
      arith,
      within,
      length-map files (new_view (share_of (behind + 1))),
      file_count shareds,
    ) in
    let deep : i < length back = omega (arith, within, length-map files old, file_count shareds) in
    ap view_of e
    ∙ sym (get_or-map view_of seats i seat)
    ∙ ap (λ l. get_or l i (view_of seat)) so_far.views
    ∙ behind_front (take i front) back i (view_of seat) (take_long front i long) deep
    ∙ get_or_default back i (view_of seat) (old (facts_at s)) deep
    ∙ get_or-map old files i (facts_at s)
    ∙ ap old (get_or-map facts_at shareds i s)
    ∙ ap (λ x. old (facts_at x)) (sym f)

old_view : (behind : ℕ) (f : Facts) (v : View) → behind < 8 → v ≡ new_view (share_of behind) f
    → old_half v ≡ new_view (share_of (behind + 1)) f
old_view behind f v few e =
    let h = halved behind few in
    let left : share_of behind - share_of behind / 2 ≡ share_of (behind + 1) = omega (arith, h.more) in
    ap old_half e ∙ ap (λ (n : ℕ). new_view n f) left

new_view_of : (behind : ℕ) (f : Facts) (v : View) → behind < 8 → v ≡ new_view (share_of behind) f
    → new_half v ≡ new_view (share_of (behind + 1)) f
new_view_of behind f v few e =
    let h = halved behind few in
    let half : share_of behind / 2 ≡ share_of (behind + 1) = omega (arith, h.more) in
    ap new_half e ∙ ap (λ (n : ℕ). new_view n f) half

pub split_more : (behind i : ℕ) (shareds : List Shared) (seats : List Seat) (actors now : List Actor)
    (seat kept other : Seat) (s : Shared) (a : Actor) → Splits behind i shareds seats actors → behind < 8
    → i < length shareds → seat ≡ get_or seats i seat → s ≡ get_or shareds i s → IsOf kept s
    → view_of kept ≡ old_half (view_of seat) → view_of other ≡ new_half (view_of seat)
    → a ≡ entering (facts_at s) (view_of other) → now ≡ actors ++ a ∷ []
    → Splits behind (i + 1) shareds (set seats i kept) now
split_more behind i shareds seats actors now seat kept other s a so_far few within e f of old new made pushed =
    let files = facts_of_all shareds in
    let share = share_of (behind + 1) in
    let front = map (new_view share) files in
    let back = map (new_view (share_of behind)) files in
    let fresh = map (new_actor share) files in
    let next : suc i ≡ i + 1 = omega arith in
    let long : i < length front = omega (arith, within, length-map files (new_view share), file_count shareds) in
    let deep : i < length back = omega (
      arith,
      within,
      length-map files (new_view (share_of behind)),
      file_count shareds,
    ) in
    let wide : i < length fresh = omega (arith, within, length-map files (new_actor share), file_count shareds) in
    let was = split_view behind i shareds seats actors seat s so_far within e f in
    let left : view_of kept ≡ new_view share (facts_at s) = old ∙ old_view behind (facts_at s) (view_of seat) few was in
    let gone : view_of other ≡ new_view share (facts_at s) =
    new ∙ new_view_of behind (facts_at s) (view_of seat) few was in
    let file : facts_at s ≡ get_or files i (facts_at s) =
    ap facts_at f ∙ sym (get_or-map facts_at shareds i s) in
    let here : view_of kept ≡ get_or front i (view_of kept) =
    left ∙ ap (new_view share) file ∙ sym (get_or-map (new_view share) files i (facts_at s))
    ∙ get_or_default front i (new_view share (facts_at s)) (view_of kept) long in
    let there : a ≡ get_or fresh i a =
    made ∙ ap (entering (facts_at s)) gone ∙ ap (new_actor share) file
    ∙ sym (get_or-map (new_actor share) files i (facts_at s))
    ∙ get_or_default fresh i (new_actor share (facts_at s)) a wide in
    record {
      of = zip_set IsOf seats shareds i kept s so_far.of (subst (IsOf kept) f of);
      views = map-set view_of seats i kept
          ∙ ap (λ l. set l i (view_of kept)) so_far.views
          ∙ front_set (take i front) back i (view_of kept) (view_of kept) (take_long front i long) deep
          ∙ ap (λ x. (take i front ++ x ∷ []) ++ drop (suc i) back) here
          ∙ ap (λ l. l ++ drop (suc i) back) (sym (take-suc front i (view_of kept) long))
          ∙ ap (λ n. take n front ++ drop n back) next;
      actors_are = pushed
          ∙ (λ j. so_far.actors_are j ++ there j ∷ [])
          ∙ sym (take-suc fresh i a wide)
          ∙ ap (λ n. take n fresh) next;
    }

drop_past : {X : Type 0} (xs : List X) (i : ℕ) → length xs ≤ i → drop i xs ≡ []
drop_past [] zero past = refl
drop_past [] (suc i) past = refl
drop_past (x ∷ xs) zero past = absurd (omega (arith, past))
drop_past (x ∷ xs) (suc i) past = drop_past xs i (omega (arith, past))

-- all seats have
pub splits_views : (behind i : ℕ) (shareds : List Shared) (seats : List Seat) (actors : List Actor)
    → Splits behind i shareds seats actors → length shareds ≤ i → AreNew (behind + 1) (facts_of_all shareds) seats
splits_views behind i shareds seats actors all past =
    let files = facts_of_all shareds in
    let front = map (new_view (share_of (behind + 1))) files in
    let back = map (new_view (share_of behind)) files in
    let long : length front ≤ i = omega (
      arith,
      past,
      length-map files (new_view (share_of (behind + 1))),
      file_count shareds,
    ) in
    let deep : length back ≤ i = omega (
      arith,
      past,
      length-map files (new_view (share_of behind)),
      file_count shareds,
    ) in
    all.views ∙ (λ j. take_all i front long j ++ drop_past back i deep j) ∙ append-nil front

pub splits_actors : (behind i : ℕ) (shareds : List Shared) (seats : List Seat) (actors : List Actor)
    → Splits behind i shareds seats actors → length shareds ≤ i
    → actors ≡ map (new_actor (share_of (behind + 1))) (facts_of_all shareds)
splits_actors behind i shareds seats actors all past =
    let files = facts_of_all shareds in
    let fresh = map (new_actor (share_of (behind + 1))) files in
    all.actors_are ∙ take_all i fresh (omega (
      arith,
      past,
      length-map files (new_actor (share_of (behind + 1))),
      file_count shareds,
    ))

-- the seat can be split
pub split_share : (behind i : ℕ) (shareds : List Shared) (seats : List Seat) (actors : List Actor) (seat : Seat)
    (s : Shared) → Splits behind i shareds seats actors → behind < 8 → i < length shareds → seat ≡ get_or seats i seat
    → s ≡ get_or shareds i s → 2 ≤ (view_of seat).share
split_share behind i shareds seats actors seat s so_far few within e f =
    let h = halved behind few in
    let v : (view_of seat).share ≡ share_of behind =
    ap (λ (w : View). w.share) (split_view behind i shareds seats actors seat s so_far within e f) in
    omega (arith, v, h.more, h.some)

-- ---- the jobs of all clients

-- the clients so far, each with its new actors
pub record Deals {R : Type 0} (shareds : List Shared) (behind : ℕ) (seats : List Seat) (jobs : List (Job R)) : Type 0
  where
    pub of : AreOf seats shareds
    pub new : AreNew behind (facts_of_all shareds) seats
    pub count : length jobs ≡ behind
    pub jobs_are : AreJobs (facts_of_all shareds) jobs

pub deals_none : {R : Type 0} (shareds : List Shared) (seats : List Seat) (jobs : List (Job R)) → AreOf seats shareds
    → AreNew 0 (facts_of_all shareds) seats → jobs ≡ [] → Deals shareds 0 seats jobs
deals_none shareds seats jobs of new none = record {
  of = of;
  new = new;
  count = ap length none;
  jobs_are = λ i job within. absurd (omega (arith, within, ap length none));
}

pub deals_more : {R : Type 0} (shareds : List Shared) (behind : ℕ) (seats kept : List Seat) (jobs now : List (Job R))
    (job : Job R) → Deals shareds behind seats jobs → AreOf kept shareds
    → AreNew (behind + 1) (facts_of_all shareds) kept → job.client ≡ behind + 1
    → actors_in job ≡ map (new_actor (share_of (behind + 1))) (facts_of_all shareds) → now ≡ jobs ++ job ∷ []
    → Deals shareds (behind + 1) kept now
deals_more shareds behind seats kept jobs now job so_far of new number actors pushed = record {
  of = of;
  new = new;
  count = ap length pushed ∙ Rattle.std.proofs.lemmas.List.length_push jobs job ∙ ap (λ n. n + 1) so_far.count;
  jobs_are = λ i d within.
      subst (λ (l : List (Job _)). IsJob (facts_of_all shareds) (i + 1) (get_or l i d)) (sym pushed)
      (at i d (omega (arith, within, ap length pushed, Rattle.std.proofs.lemmas.List.length_push jobs job)));
}
  where
    at : (i : ℕ) (d : Job _) → i < length jobs + 1
        → IsJob (facts_of_all shareds) (i + 1) (get_or (jobs ++ job ∷ []) i d)
    at i d low = elim (cases_lt i (length jobs)) [
      | inl before ↦
          subst (IsJob (facts_of_all shareds) (i + 1))
          (sym (Rattle.std.proofs.lemmas.List.get_or_append_left jobs (job ∷ []) d i before))
          (so_far.jobs_are i d before)
      | inr past ↦
          let here : length jobs ≡ i = omega (arith, past, low) in
          let one : behind + 1 ≡ i + 1 = omega (arith, here, so_far.count) in
          subst (IsJob (facts_of_all shareds) (i + 1))
          (sym (Rattle.std.proofs.lemmas.List.get_or_at jobs job [] d i here))
          (subst (λ (n : ℕ). IsJob (facts_of_all shareds) n job) one (record { number = number; actors = actors }))
    ]

-- ---- seats that are joined

-- the seat next in the list
pub record Next (gone rest : List Seat) (i : ℕ) (seat : Seat) : Type 0 where
  pub within : i < length gone
  pub at : seat ≡ get_or gone i seat
  pub behind : rest ≡ drop (i + 1) gone

next_of : {X : Type 0} (xs rest : List X) (i : ℕ) (x : X) → x ∷ rest ≡ drop i xs
    → (i < length xs) × (x ≡ get_or xs i x) × (rest ≡ drop (i + 1) xs)
next_of xs rest i x e =
    let zero_more : i + 0 ≡ i = omega arith in
    let one_more : suc i ≡ i + 1 = omega arith in (
      omega (arith, ap length e, length-drop i xs),
      ap (λ l. get_or l 0 x) e ∙ get_or-drop i xs 0 x ∙ ap (λ n. get_or xs n x) zero_more,
      ap (drop 1) e ∙ drop_twice xs i ∙ ap (λ n. drop n xs) one_more,
    )
  where
    drop_twice : {X : Type 0} (xs : List X) (i : ℕ) → drop 1 (drop i xs) ≡ drop (suc i) xs
    drop_twice [] zero = refl
    drop_twice [] (suc i) = refl
    drop_twice (x ∷ xs) zero = refl
    drop_twice (x ∷ xs) (suc i) = drop_twice xs i

-- the first i seats are joined
pub record Joins (shareds : List Shared) (start gone : List Seat) (i : ℕ) (rest joined_in seats : List Seat) : Type 0
  where
    pub rest_is : rest ≡ drop i gone
    pub count : i ≡ length joined_in
    pub of : AreOf seats shareds
    pub views : views_in seats ≡ join_each (views_in start) (views_in joined_in)

pub joins_none : (shareds : List Shared) (start gone rest : List Seat) → AreOf start shareds → rest ≡ gone
    → Joins shareds start gone 0 rest [] start
joins_none shareds start gone rest of e = record {
  rest_is = e;
  count = refl;
  of = of;
  views = sym (none (views_in start));
}
  where
    none : (vs : List View) → join_each vs [] ≡ vs
    none [] = refl
    none (v ∷ vs) = refl

pub join_next : (shareds : List Shared) (start gone : List Seat) (i : ℕ) (rest more joined_in seats : List Seat)
    (seat : Seat) → Joins shareds start gone i rest joined_in seats → rest ≡ seat ∷ more → Next gone more i seat
join_next shareds start gone i rest more joined_in seats seat so_far e =
    let n = next_of gone more i seat (sym e ∙ so_far.rest_is) in record { within = n.0; at = n.1; behind = n.2 }

pub join_more : (shareds : List Shared) (start gone : List Seat) (i : ℕ) (rest more joined_in seats : List Seat)
    (seat into kept : Seat) (s : Shared) → Joins shareds start gone i rest joined_in seats → AreOf start shareds
    → Next gone more i seat → i < length shareds → into ≡ get_or seats i into → s ≡ get_or shareds i s → IsOf kept s
    → view_of kept ≡ joined (view_of into) (view_of seat)
    → Joins shareds start gone (i + 1) more (joined_in ++ seat ∷ []) (set seats i kept)
join_more shareds start gone i rest more joined_in seats seat into kept s so_far begun next within e f of both =
    let before = views_in start in
    let in_now = views_in joined_in in
    let many : length in_now ≡ i = length-map joined_in view_of ∙ sym so_far.count in
    let wide : length in_now < length before =
    omega (arith, many, within, length-map start view_of, zip_length IsOf start shareds begun) in
    let was : view_of into ≡ get_or (join_each before in_now) i (view_of into) =
    ap view_of e ∙ sym (get_or-map view_of seats i into) ∙ ap (λ l. get_or l i (view_of into)) so_far.views in
    record {
      rest_is = next.behind;
      count = omega (arith, so_far.count, Rattle.std.proofs.lemmas.List.length_push joined_in seat);
      of = zip_set IsOf seats shareds i kept s so_far.of (subst (IsOf kept) f of);
      views = map-set view_of seats i kept
          ∙ ap (λ l. set l i (view_of kept)) so_far.views
          ∙ ap (set (join_each before in_now) i) (both ∙ ap (λ v. joined v (view_of seat)) was)
          ∙ ap (λ n. set (join_each before in_now) n (joined (get_or (join_each before in_now) n (view_of into))
          (view_of seat))) (sym many)
          ∙ sym (join_push before in_now (view_of seat) (view_of into) wide)
          ∙ ap (join_each before) (sym (map-append view_of joined_in (seat ∷ [])));
    }

-- ---- clients that are gathered

-- what is still to come of these makes the whole
pub record Gathers (shareds : List Shared) (start : List Seat) (all rest : List Came) (seats : List Seat)
    (done : List Done) : Type 0 where
  pub of : AreOf seats shareds
  pub all_of : AreAllOf shareds rest
  pub views : take_in (views_in seats) rest ≡ take_in (views_in start) all
  pub done_is : done ++ done_in rest ≡ done_in all
  pub held : NoneFailed rest → NoneFailed all

pub gathers_all : (shareds : List Shared) (start : List Seat) (all rest : List Came) (done : List Done)
    → AreOf start shareds → AreAllOf shareds all → rest ≡ all → done ≡ [] → Gathers shareds start all rest start done
gathers_all shareds start all rest done of all_of e none =
    subst (λ (l : List Came). Gathers shareds start all l start done) (sym e)
    (subst (Gathers shareds start all all start) (sym none) (record {
      of = of;
      all_of = all_of;
      views = refl;
      done_is = refl;
      held = λ x. x;
    }))

pub gathers_next : (shareds : List Shared) (start : List Seat) (all rest more : List Came) (seats : List Seat)
    (done : List Done) (r : Report) → Gathers shareds start all rest seats done → rest ≡ Ok r ∷ more
    → AreOf r.seats.items shareds
gathers_next shareds start all rest more seats done r so_far e = (subst (AreAllOf shareds) e so_far.all_of).0

pub gathers_more : (shareds : List Shared) (start : List Seat) (all rest more : List Came) (seats new : List Seat)
    (done after : List Done) (r : Report) → Gathers shareds start all rest seats done → rest ≡ Ok r ∷ more
    → AreOf new shareds → views_in new ≡ join_each (views_in seats) (views_in r.seats.items)
    → after ≡ done ++ r.done.items → Gathers shareds start all more new after
gathers_more shareds start all rest more seats new done after r so_far e of views is = record {
  of = of;
  all_of = (subst (AreAllOf shareds) e so_far.all_of).1;
  views = ap (λ v. take_in v more) views ∙ ap (take_in (views_in seats)) (sym e) ∙ so_far.views;
  done_is = ap (λ l. l ++ done_in more) is ∙ append_assoc done r.done.items (done_in more)
      ∙ ap (λ l. done ++ done_in l) (sym e) ∙ so_far.done_is;
  held = λ x. so_far.held (subst NoneFailed (sym e) x);
}

pub record Gathered (shareds : List Shared) (start : List Seat) (all : List Came) (seats : List Seat) (done : List Done)
    : Type 0 where
  pub of : AreOf seats shareds
  pub views : views_in seats ≡ take_in (views_in start) all
  pub done_is : done ≡ done_in all
  pub held : NoneFailed all

pub gathers_end : (shareds : List Shared) (start : List Seat) (all rest : List Came) (seats : List Seat)
    (done : List Done) → Gathers shareds start all rest seats done → rest ≡ [] → Gathered shareds start all seats done
gathers_end shareds start all rest seats done so_far e = record {
  of = so_far.of;
  views = ap (take_in (views_in seats)) (sym e) ∙ so_far.views;
  done_is = sym (append-nil done) ∙ ap (λ l. done ++ done_in l) (sym e) ∙ so_far.done_is;
  held = so_far.held (subst NoneFailed (sym e) tt);
}

-- ---- files that rest again

pub record Rests (shareds other : List Shared) (seats rest : List Seat) (files : List Resting) : Type 0 where
  pub of : AreOf rest other
  pub last : All (λ (seat : Seat). (view_of seat).share ≡ whole_share) rest
  pub makes : (more : List Resting) → AreLeft (facts_of_all other) (views_in rest) more
      → AreLeft (facts_of_all shareds) (views_in seats) (files ++ more)

pub rests_all : (shareds other : List Shared) (seats rest : List Seat) (files : List Resting) → AreOf seats shareds
    → All (λ (seat : Seat). (view_of seat).share ≡ whole_share) seats → other ≡ shareds → rest ≡ seats → files ≡ []
    → Rests shareds other seats rest files
rests_all shareds other seats rest files of last e f none =
    subst (λ (l : List Shared). Rests shareds l seats rest files) (sym e)
    (subst (λ (l : List Seat). Rests shareds shareds seats l files) (sym f) (record {
      of = of;
      last = last;
      makes = λ more left. subst (λ (l : List Resting). AreLeft (facts_of_all shareds) (views_in seats) (l ++ more))
          (sym none) left;
    }))

pub rests_more : (shareds other others : List Shared) (seats rest behind : List Seat) (files new : List Resting)
    (s : Shared) (seat : Seat) (r : Resting) → Rests shareds other seats rest files → other ≡ s ∷ others
    → rest ≡ seat ∷ behind → LeftBy (facts_at s) (view_of seat) r → new ≡ files ++ r ∷ []
    → Rests shareds others seats behind new
rests_more shareds other others seats rest behind files new s seat r so_far e f left is = record {
  of = (subst (λ (l : List Seat). AreOf l (s ∷ others)) f (subst (AreOf rest) e so_far.of)).1;
  last = All-rest (λ (x : Seat). (view_of x).share ≡ whole_share) seat behind rest f so_far.last;
  makes = λ more are.
      subst (AreLeft (facts_of_all shareds) (views_in seats))
      (sym (append_assoc files (r ∷ []) more) ∙ ap (λ l. l ++ more) (sym is))
      (so_far.makes (r ∷ more)
      (subst (λ (l : List Shared). AreLeft (facts_of_all l) (views_in rest) (r ∷ more)) (sym e)
      (subst (λ (l : List Seat). AreLeft (facts_of_all (s ∷ others)) (views_in l) (r ∷ more)) (sym f) (left, are))));
}

pub rests_of : (shareds other others : List Shared) (seats rest behind : List Seat) (files : List Resting)
    (s : Shared) (seat : Seat) → Rests shareds other seats rest files → other ≡ s ∷ others → rest ≡ seat ∷ behind
    → IsOf seat s
rests_of shareds other others seats rest behind files s seat so_far e f =
    (subst (λ (l : List Seat). AreOf l (s ∷ others)) f (subst (AreOf rest) e so_far.of)).0

pub rests_last : (shareds other : List Shared) (seats rest behind : List Seat) (files : List Resting)
    (seat : Seat) → Rests shareds other seats rest files → rest ≡ seat ∷ behind
    → (view_of seat).share ≡ whole_share
rests_last shareds other seats rest behind files seat so_far f =
    Rattle.std.proofs.lemmas.List.Elements.All-head (λ (x : Seat). (view_of x).share ≡ whole_share) seat behind
    (subst (All (λ (x : Seat). (view_of x).share ≡ whole_share)) f so_far.last)

pub rests_end : (shareds other : List Shared) (seats rest : List Seat) (files : List Resting)
    → Rests shareds other seats rest files → (length other ≡ 0) → AreLeft (facts_of_all shareds) (views_in seats) files
rests_end shareds other seats rest files so_far none =
    subst (AreLeft (facts_of_all shareds) (views_in seats)) (append-nil files)
    (so_far.makes [] (both other rest so_far.of none))
  where
    both : (other : List Shared) (rest : List Seat) → AreOf rest other → length other ≡ 0
        → AreLeft (facts_of_all other) (views_in rest) []
    both [] [] of e = tt
    both [] (x ∷ rest) of e = absurd of
    both (y ∷ other) rest of e = absurd (omega (arith, e))
