-- The views of all clients' actors of one file, and the actor that takes them in.
use Rattle.std.proofs.Common.{◌≡◌, ℕ, zero, suc, ◌+◌, ◌<◌, ◌≤◌, List, [], ◌∷◌, ◌++◌, length, map, get_or, Some, refl, sym, ap}
use Rattle.std.proofs.Common.{◌∙◌, subst, arith}
use Rattle.std.specs.Prelude.{slice_get}
use Rattle.std.proofs.lemmas.List.{length-map, get_or-map}
use mathlib.Core.Option.{some, some-injective, some-ne-none}
use lib.ListN.{get_elem?}
use Rattle.mf_machine.specs.declared.view.Met.{Met}
use Rattle.mf_machine.specs.declared.view.View.{View}
use Rattle.mf_machine.specs.Counts.{times, total, all_begun, all_opened}
use Rattle.mf_machine.specs.Steps.{joined}
use Rattle.mf_machine.specs.Sums.{publishings, begun_of, opened_of}
use Rattle.mf_machine.proofs.Lists.{times-append}
use Rattle.mf_machine.proofs.Totals.{all_begun-append, all_opened-append}
use Rattle.mf_lines.specs.Meaning.{Script}
use Rattle.mf_vault.specs.Facts.{Facts, stages}
use Rattle.mf_vault.specs.Actor.{Actor}
use Rattle.mf_plain.specs.Resting.{Resting}
use Rattle.mf_shared.specs.Left.{LeftBy}
use Rattle.mf_client.specs.Clients.{commands_of}
use Rattle.mf_crew.specs.Live.{Ran, AllRan, AreLeft, share_of, new_actor, views_of, join_each, join_all}
use Rattle.mf_crew.proofs.Closing.{closings_of, closed_joined}
use Rattle.mf_crew.proofs.Joining.{join_length}
use Rattle.mf_crew.proofs.Staying.{runs_shares}
use Rattle.mf_crew.proofs.Tracing.{Trace, trace_from}

-- ---- one file among all

-- the view of each client's actor of file n; d is the actor where there is none
abbrev pub column : (d : Actor) (n : ℕ) → List Ran → List View
column d n [] = []
column d n (r ∷ rs) = (get_or r.actors n d).view ∷ column d n rs

-- an actor takes in others in turn
abbrev pub joins : View → List View → View
joins v [] = v
joins v (w ∷ ws) = joins (joined v w) ws

each_at : (vs ws : List View) (n : ℕ) (d e : View) → n < length vs → n < length ws
    → get_or (join_each vs ws) n d ≡ joined (get_or vs n d) (get_or ws n e)
each_at [] ws n d e low there = absurd (omega (arith, low))
each_at (v ∷ vs) [] n d e low there = absurd (omega (arith, there))
each_at (v ∷ vs) (w ∷ ws) zero d e low there = refl
each_at (v ∷ vs) (w ∷ ws) (suc n) d e low there = each_at vs ws n d e (omega (arith, low)) (omega (arith, there))

-- each client has an actor of file n
abbrev pub AllHave : (n : ℕ) → List Ran → Type 0
AllHave n [] = Unit {0}
AllHave n (r ∷ rs) = (n < length r.actors) × AllHave n rs

pub all_at : (vs : List View) (rs : List Ran) (n : ℕ) (d : Actor) (e : View) → n < length vs → AllHave n rs
    → get_or (join_all vs rs) n e ≡ joins (get_or vs n e) (column d n rs)
all_at vs [] n d e low has = refl
all_at vs (r ∷ rs) n d e low has =
    let view = λ (a : Actor). a.view in
    let long = length-map r.actors view in
    let one = each_at vs (views_of r.actors) n e d.view low (omega (arith, has.0, long)) in
    let same : get_or (views_of r.actors) n d.view ≡ (get_or r.actors n d).view =
    get_or-map view r.actors n d d.view has.0 in
    all_at (join_each vs (views_of r.actors)) rs n d e (omega (arith, low, join_length vs (views_of r.actors))) has.1
    ∙ ap (λ (v : View). joins v (column d n rs)) (one ∙ ap (joined (get_or vs n e)) same)

-- ---- the client at a place

pub column_at : (d : Actor) (n : ℕ) (rs : List Ran) (j : ℕ) (r : Ran) → slice_get rs j ≡ Some r
    → get_elem? (column d n rs) j ≡ some (get_or r.actors n d).view
column_at d n [] j r at = absurd cc
column_at d n (x ∷ rs) zero r at = let same : x ≡ r = cc in ap (λ (z : Ran). some (get_or z.actors n d).view) same
column_at d n (x ∷ rs) (suc j) r at = column_at d n rs j r at

pub at_column : (d : Actor) (n : ℕ) (rs : List Ran) (j : ℕ) (u : View) → get_elem? (column d n rs) j ≡ some u
    → (r : Ran) × (slice_get rs j ≡ Some r) × ((get_or r.actors n d).view ≡ u)
at_column d n [] j u at = absurd (some-ne-none u (sym at))
at_column d n (r ∷ rs) zero u at = (r, refl, some-injective (get_or r.actors n d).view u at)
at_column d n (r ∷ rs) (suc j) u at = at_column d n rs j u at

-- ---- what the last actor has

pub joins_own : (v : View) (ws : List View) → (joins v ws).own ≡ v.own
joins_own v [] = refl
joins_own v (w ∷ ws) = joins_own (joined v w) ws

pub joins_published : (m : ℕ) (v : View) (ws : List View)
    → times m (joins v ws).made.numbers ≡ times m v.made.numbers + total (publishings m) ws
joins_published m v [] = omega arith
joins_published m v (w ∷ ws) =
    let r = joins_published m (joined v w) ws in
    let a = times-append m v.made.numbers w.made.numbers in omega arith

pub joins_begun : (v : View) (ws : List View)
    → all_begun (joins v ws).gone ≡ all_begun v.gone + total begun_of ws
joins_begun v [] = omega arith
joins_begun v (w ∷ ws) =
    let r = joins_begun (joined v w) ws in
    let a = all_begun-append v.gone (w.own ∷ w.gone) in omega arith

pub joins_opened : (g : ℕ) (v : View) (ws : List View)
    → all_opened g (joins v ws).gone ≡ all_opened g v.gone + total (opened_of g) ws
joins_opened g v [] = omega arith
joins_opened g v (w ∷ ws) =
    let r = joins_opened g (joined v w) ws in
    let a = all_opened-append g v.gone (w.own ∷ w.gone) in omega arith

pub joins_closed : (q : ℕ) (v : View) (ws : List View)
    → closings_of q (joins v ws) ≡ closings_of q v + total (closings_of q) ws
joins_closed q v [] = omega arith
joins_closed q v (w ∷ ws) =
    let r = joins_closed q (joined v w) ws in
    let a = closed_joined q v.made.closings w.made.closings in omega arith

at_front : (xs ys : List Met) (j : ℕ) (m : Met) → get_elem? xs j ≡ some m → get_elem? (xs ++ ys) j ≡ some m
at_front [] ys j m at = absurd (some-ne-none m (sym at))
at_front (x ∷ xs) ys zero m at = at
at_front (x ∷ xs) ys (suc j) m at = at_front xs ys j m at

at_seam : (xs ys : List Met) (m : Met) → get_elem? (xs ++ m ∷ ys) (length xs) ≡ some m
at_seam [] ys m = refl
at_seam (x ∷ xs) ys m = at_seam xs ys m

joins_keep : (v : View) (ws : List View) (j : ℕ) (m : Met) → get_elem? v.gone j ≡ some m
    → get_elem? (joins v ws).gone j ≡ some m
joins_keep v [] j m at = at
joins_keep v (w ∷ ws) j m at = joins_keep (joined v w) ws j m (at_front v.gone (w.own ∷ w.gone) j m at)

-- the Met of each that it took in stands among its own
pub joins_met : (v : View) (ws : List View) (i : ℕ) (w : View) → get_elem? ws i ≡ some w
    → (j : ℕ) × (get_elem? (joins v ws).gone j ≡ some w.own)
joins_met v [] i w at = absurd (some-ne-none w (sym at))
joins_met v (x ∷ ws) zero w at =
    let same = some-injective x w at in
    subst (λ (z : View). (j : ℕ) × (get_elem? (joins v (x ∷ ws)).gone j ≡ some z.own)) same
    (length v.gone, joins_keep (joined v x) ws (length v.gone) x.own (at_seam v.gone x.gone x.own))
joins_met v (x ∷ ws) (suc i) w at = joins_met (joined v x) ws i w at

-- it has seen at least what each of them has seen
first_seen : (v : View) (ws : List View) → v.seen.number ≤ (joins v ws).seen.number
first_seen v [] = omega arith
first_seen v (w ∷ ws) = let r = first_seen (joined v w) ws in omega arith

pub joins_seen : (v : View) (ws : List View) (i : ℕ) (w : View) → get_elem? ws i ≡ some w
    → w.seen.number ≤ (joins v ws).seen.number
joins_seen v [] i w at = absurd (some-ne-none w (sym at))
joins_seen v (x ∷ ws) zero w at =
    let same = ap (λ (z : View). z.seen.number) (some-injective x w at) in
    let r = first_seen (joined v x) ws in omega arith
joins_seen v (x ∷ ws) (suc i) w at = joins_seen (joined v x) ws i w at

-- ---- the clients' traces on file n, with these facts

pub record Traced (q n : ℕ) (f : Facts) (d : Actor) (r : Ran) : Type 0 where
  pub share : ℕ
  pub trace : Trace q n r.done (new_actor share f) (get_or r.actors n d)
  pub long : n < length r.actors

abbrev pub AllTraced : (q n : ℕ) → Facts → Actor → List Ran → Type 0
AllTraced q n f d [] = Unit {0}
AllTraced q n f d (r ∷ rs) = Traced q n f d r × AllTraced q n f d rs

pub file_at : (files : List Facts) (n : ℕ) (f g : Facts) → slice_get files n ≡ Some f → get_or files n g ≡ f
file_at [] n f g at = absurd cc
file_at (x ∷ files) zero f g at = cc
file_at (x ∷ files) (suc n) f g at = file_at files n f g at

pub file_low : (files : List Facts) (n : ℕ) (f : Facts) → slice_get files n ≡ Some f → n < length files
file_low [] n f at = absurd cc
file_low (x ∷ files) zero f at = omega arith
file_low (x ∷ files) (suc n) f at = let r = file_low files n f at in omega arith

new_at : (t : ℕ) (files : List Facts) (n : ℕ) (f : Facts) (d : Actor) → slice_get files n ≡ Some f
    → get_or (map (new_actor t) files) n d ≡ new_actor t f
new_at t files n f d at =
    get_or-map (new_actor t) files n f d (file_low files n f at) ∙ ap (new_actor t) (file_at files n f f at)

pub all_traced : (s : Script) (phase client q n : ℕ) (files : List Facts) (f : Facts) (d : Actor) (rs : List Ran)
    → stages f ≡ q → slice_get files n ≡ Some f → AllRan s phase client files rs → AllTraced q n f d rs
all_traced s phase client q n files f d [] e at all = tt
all_traced s phase client q n files f d (r ∷ rs) e at (one, rest) =
    let t = share_of client in
    let first = map (new_actor t) files in
    let share = λ (a : Actor). a.view.share in
    let begins = new_at t files n f d at in
    let low = file_low files n f at in
    let wide = length-map files (new_actor t) in
    let long = sym (length-map r.actors share) ∙ ap length (runs_shares s phase client first r.done r.actors one)
    ∙ length-map first share in (
      record {
        share = t;
        trace = subst (λ (z : Actor). Trace q n r.done z (get_or r.actors n d)) begins
            (trace_from s q n phase client 1 (commands_of s phase client) d first r.done r.actors one
            (omega (arith, low, wide)) (ap (λ (a : Actor). stages a.facts) begins ∙ e));
        long = omega (arith, low, wide, long);
      },
      all_traced s phase (client + 1) q n files f d rs e at rest,
    )

pub traced_at : (q n : ℕ) (f : Facts) (d : Actor) (rs : List Ran) (j : ℕ) (r : Ran) → AllTraced q n f d rs
    → slice_get rs j ≡ Some r → Traced q n f d r
traced_at q n f d [] j r all at = absurd cc
traced_at q n f d (x ∷ rs) zero r all at = let same : x ≡ r = cc in subst (Traced q n f d) same all.0
traced_at q n f d (x ∷ rs) (suc j) r all at = traced_at q n f d rs j r all.1 at

pub all_have : (q n : ℕ) (f : Facts) (d : Actor) (rs : List Ran) → AllTraced q n f d rs → AllHave n rs
all_have q n f d [] all = tt
all_have q n f d (r ∷ rs) all = (all.0.long, all_have q n f d rs all.1)

-- ---- the file that is left

pub left_view : (files : List Facts) (views : List View) (after : List Resting) (n : ℕ) (r : Resting) (e : View)
    → AreLeft files views after → slice_get after n ≡ Some r
    → (f : Facts) × (slice_get files n ≡ Some f) × LeftBy f (get_or views n e) r
left_view [] [] [] n r e are at = absurd cc
left_view [] [] (x ∷ after) n r e are at = absurd are
left_view [] (v ∷ views) after n r e are at = absurd are
left_view (f ∷ files) [] after n r e are at = absurd are
left_view (f ∷ files) (v ∷ views) [] n r e are at = absurd are
left_view (f ∷ files) (v ∷ views) (x ∷ after) zero r e are at =
    let same : x ≡ r = cc in (f, refl, subst (LeftBy f v) same are.0)
left_view (f ∷ files) (v ∷ views) (x ∷ after) (suc n) r e are at = left_view files views after n r e are.1 at
