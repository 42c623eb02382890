-- The law of a phase of several clients.
use Rattle.std.proofs.Common.{◌≡◌, ◌≢◌, ℕ, ◌+◌, ◌<◌, ◌≤◌, true, List, [], ◌∷◌, length, map, get_or, Some, refl, sym}
use Rattle.std.proofs.Common.{zero, suc, Bool, true, false, ap, ◌∙◌, subst, arith, inl, inr, ◌⊎◌, ⊎_elim, All, take}
use Rattle.std.specs.Prelude.{slice_get, slice_index_or, flat_map}
use Rattle.std.proofs.lemmas.List.{length-map, get_or-map}
use Rattle.std.proofs.lemmas.List.Elements.{All-nil, All-cons}
use Rattle.std.proofs.lemmas.Option.{slice_get-get_or, get_or_from_slice_get}
use mathlib.Core.Option.{some, some-ne-none}
use mathlib.Core.Logic.{dite}
use native.Mathlib.Decide.{ℕ_discrete}
use lib.ListN.{get_elem?}
use Rattle.mf_machine.specs.declared.view.Met.{Met}
use Rattle.mf_machine.specs.declared.view.View.{View}
use Rattle.mf_machine.specs.Actors.{Among}
use Rattle.mf_machine.specs.Answers as said
use Rattle.mf_machine.specs.Counts.{truth, bit, times, total, all_begun, all_opened}
use Rattle.mf_machine.specs.Kept.{HasSeen, IsMetOf}
use Rattle.mf_machine.specs.Sums.{publishings, closings, begun_of, opened_of}
use Rattle.mf_machine.specs.Words.{number_of, filled}
use Rattle.mf_machine.specs.Worlds.{spent_view}
use Rattle.mf_machine.proofs.Lists.{bit_eq, bit_le}
use Rattle.mf_machine.proofs.Totals.{total_other}
use Rattle.mf_places.specs.Facts.{BookFacts}
use Rattle.mf_lines.specs.Meaning.{Script}
use Rattle.mf_vault.specs.Facts.{Facts, stages}
use Rattle.mf_vault.specs.Actor.{Actor}
use Rattle.mf_script.specs.Losses.{losses_of}
use Rattle.mf_plain.specs.Resting.{Resting, AtRest, facts_of}
use Rattle.mf_shared.specs.Left.{LeftBy}
use Rattle.mf_client.specs.declared.done.Done.{Done}
use Rattle.mf_crew.specs.Laws.{ClientsTell, FilesRest, TellsOfFile, DidAs, AnotherActor, Holds, closed_below}
use Rattle.mf_crew.specs.Live.{Ran, RunsLive, AreLeft, untabled, share_of, new_view, new_actor, join_all}
use Rattle.mf_crew.specs.Tales.{done_tale, tale_of, takes, hold_behind}
use Rattle.mf_crew.proofs.Columns.{column, joins, column_at, at_column, joins_own, joins_published, joins_begun}
use Rattle.mf_crew.proofs.Closing.{closings_of, sum_up, sum_same, sum_both, sum_zero}
use Rattle.mf_crew.proofs.Phased.{map_at}
use Rattle.mf_crew.proofs.Columns.{joins_closed, joins_opened, joins_seen, joins_met, AllTraced, all_at, all_traced, traced_at, all_have, left_view}
use Rattle.mf_crew.proofs.Columns.{file_at, file_low}
use Rattle.mf_crew.proofs.Following.{trace_publishes, tale_append, trace_gone, trace_begun, trace_refused}
use Rattle.mf_crew.proofs.Following.{trace_creates, trace_pinned, trace_closed, closed_append}

-- what all clients published of the file is what their outcomes tell
all_published : (q n : ℕ) (f : Facts) (d : Actor) (rs : List Ran) (m : ℕ) → AllTraced q n f d rs
    → total (publishings m) (column d n rs) ≡ (tale_of q n (flat_map (λ (r : Ran). r.done) rs)).published m
all_published q n f d [] m all = refl
all_published q n f d (r ∷ rs) m (one, rest) =
    let t = trace_publishes q n r.done (new_actor one.share f) (get_or r.actors n d) m one.trace in
    let more = all_published q n f d rs m rest in
    let both = tale_append q n r.done (flat_map (λ (x : Ran). x.done) rs) m in omega arith

-- so are the generations that they closed
all_closed : (q n : ℕ) (f : Facts) (d : Actor) (rs : List Ran) → stages f ≡ q → AllTraced q n f d rs
    → total (closings_of q) (column d n rs) ≡ (tale_of q n (flat_map (λ (r : Ran). r.done) rs)).closed
all_closed q n f d [] e all = refl
all_closed q n f d (r ∷ rs) e (one, rest) =
    let t = trace_closed q n r.done (new_actor one.share f) (get_or r.actors n d) one.trace e in
    let none = sum_zero q in
    let more = all_closed q n f d rs e rest in
    let both = closed_append q n r.done (flat_map (λ (x : Ran). x.done) rs) in omega arith

-- the file behind a phase, where its last actor took in the clients' actors, whose traces these are
record IsBehind (q n : ℕ) (f : Facts) (d : Actor) (rs : List Ran) (r : Resting) : Type 0 where
  share : ℕ
  left : LeftBy f (joins (new_view share f) (column d n rs)) r
  traced : AllTraced q n f d rs
  stage : stages f ≡ q

-- how often the last actor published a number
last_published : {q n : ℕ} {f : Facts} {d : Actor} {rs : List Ran} {r : Resting} (x : IsBehind q n f d rs r) (m : ℕ)
    → total (publishings m) (joins (new_view x.share f) (column d n rs) ∷ [])
    ≡ (tale_of q n (flat_map (λ (z : Ran). z.done) rs)).published m
last_published {q = q} {n = n} {f = f} {d = d} {rs = rs} x m =
    let a = joins_published m (new_view x.share f) (column d n rs) in
    let b = all_published q n f d rs m x.traced in omega arith

publishes_once : {q n : ℕ} {f : Facts} {d : Actor} {rs : List Ran} {r : Resting} → IsBehind q n f d rs r → (m : ℕ)
    → (tale_of q n (flat_map (λ (z : Ran). z.done) rs)).published m ≤ 1
publishes_once {q = q} {n = n} {f = f} {d = d} {rs = rs} x m =
    let e = last_published x m in
    dite (ℕ_discrete (total (publishings m) (joins (new_view x.share f) (column d n rs) ∷ [])) 0)
    (λ none. omega arith)
    (λ some. let one = (x.left.kept.accounted.published_once m (omega arith)).0 in omega arith)

publishes_low : {q n : ℕ} {f : Facts} {d : Actor} {rs : List Ran} {r : Resting} → IsBehind q n f d rs r → (m : ℕ)
    → 0 < (tale_of q n (flat_map (λ (z : Ran). z.done) rs)).published m → m ≤ r.number
publishes_low x m low =
    let e = last_published x m in
    let top = x.left.kept.accounted.greatest m (omega arith) in
    let same = x.left.rest.number in omega arith

refuses : {q n : ℕ} {f : Facts} {d : Actor} {rs : List Ran} {r : Resting} → IsBehind q n f d rs r → (i k : ℕ)
    (y : Done) → DidAs rs i k y → 0 < (done_tale q n y).refused → AnotherActor rs n i (λ a. 0 < a.view.own.begun)
refuses {q = q} {n = n} {f = f} {d = d} {rs = rs} x i k y (c, at, there) low =
    let mine = traced_at q n f d rs i c x.traced at in
    let a = get_or c.actors n d in
    let met = trace_refused q n c.done (new_actor mine.share f) a k y mine.trace there low in
    let first = new_view x.share f in
    let ws = column d n rs in
    let here = column_at d n rs i c at in
    let among = joins_met first ws i a.view here in
    let cause = x.left.kept.caused.answers said.refused 0 (joins first ws) refl a.view.own (inr among) met in
    let own = ap (λ z. z.begun) (joins_own first ws) in
    let all = joins_begun first ws in
    let mine_gone = ap all_begun (trace_gone q n c.done (new_actor mine.share f) a mine.trace) in
    let other = total_other begun_of ws i a.view here (omega arith) in
    let found = at_column d n rs other.0 other.1 other.3 in
    let e = found.0 in
    let b = get_or e.actors n d in
    let theirs = traced_at q n f d rs other.0 e x.traced found.1 in
    let their_gone = ap all_begun (trace_gone q n e.done (new_actor theirs.share f) b theirs.trace) in
    let has : 0 < begun_of b.view = subst (λ (z : View). 0 < begun_of z) (sym found.2) other.4 in
    (other.0, e, b, other.2, found.1, slice_get-get_or e.actors n d theirs.long, omega arith)

-- who has a begin has a command that took the right
begins : {q n : ℕ} {f : Facts} {d : Actor} {rs : List Ran} {r : Resting} → IsBehind q n f d rs r → (i : ℕ) (c : Ran)
    (a : Actor) → slice_get rs i ≡ Some c → slice_get c.actors n ≡ Some a → 0 < a.view.own.begun
    → (k : ℕ) × (y : Done) × (slice_get c.done k ≡ Some y) × (takes n y ≡ true)
begins {q = q} {n = n} {f = f} {d = d} {rs = rs} x i c a at there low =
    let same : get_or c.actors n d ≡ a = get_or_from_slice_get c.actors n a d there in
    let mine = traced_at q n f d rs i c x.traced at in
    trace_begun q n c.done (new_actor mine.share f) (get_or c.actors n d) mine.trace
    (subst (λ (z : Actor). 0 < z.view.own.begun) (sym same) low)

-- where a close met pins, there is one alone, the own one of the Hold slot, or another client made a pin
pins_met : {q n : ℕ} {f : Facts} {d : Actor} {rs : List Ran} {r : Resting} → IsBehind q n f d rs r → (i k : ℕ)
    (y : Done) → DidAs rs i k y → (g p : ℕ) → 0 < (done_tale q n y).pinned g p
    → (Holds rs n i k g × (p ≡ 1)) ⊎ AnotherActor rs n i (λ a. Among g a.view.own.opened)
pins_met {q = q} {n = n} {f = f} {d = d} {rs = rs} x i k y (c, at, there) g p low =
    let mine = traced_at q n f d rs i c x.traced at in
    let a = get_or c.actors n d in
    let begins = new_actor mine.share f in
    let met = trace_pinned q n c.done begins a k y g p mine.trace (record { right = refl; work = refl }) there low in
    let slot = hold_behind n (take k c.done) 0 in
    let first = new_view x.share f in
    let ws = column d n rs in
    let here = column_at d n rs i c at in
    let among = joins_met first ws i a.view here in
    let own_pins = bit slot (filled g) in
    let cause = x.left.kept.caused.answers (said.pinned g p own_pins) 0 (joins first ws) refl a.view.own (inr among)
    met.0 in
    let some = met.1 in
    let other : own_pins < p → AnotherActor rs n i (λ b. Among g b.view.own.opened) = λ less.
    let more = cause less in
    let own = ap (λ z. times g z.opened) (joins_own first ws) in
    let all = joins_opened g first ws in
    let mine_gone = ap (all_opened g) (trace_gone q n c.done begins a mine.trace) in
    let found_other = total_other (opened_of g) ws i a.view here (omega arith) in
    let found = at_column d n rs found_other.0 found_other.1 found_other.3 in
    let e = found.0 in
    let theirs = traced_at q n f d rs found_other.0 e x.traced found.1 in
    let b = get_or e.actors n d in
    let their_gone = ap (all_opened g) (trace_gone q n e.done (new_actor theirs.share f) b theirs.trace) in
    let has : 0 < opened_of g b.view = subst (λ (z : View). 0 < opened_of g z) (sym found.2) found_other.4 in
    (found_other.0, e, b, found_other.2, found.1, slice_get-get_or e.actors n d theirs.long, omega arith) in
    dite (ℕ_discrete own_pins 0)
    (λ none. inr (other (omega arith)))
    (λ held. dite (ℕ_discrete p 1)
    (λ alone. inl ((c, at, bit_eq slot (filled g) (omega arith)), alone))
    (λ beside. let few = bit_le slot (filled g) in inr (other (omega arith))))

-- a number that a client has seen is at most the one at rest
sees_low : {q n : ℕ} {f : Facts} {d : Actor} {rs : List Ran} {r : Resting} → IsBehind q n f d rs r → (i m : ℕ)
    (c : Ran) (a : Actor) → slice_get rs i ≡ Some c → slice_get c.actors n ≡ Some a → HasSeen a.view m → m ≤ r.number
sees_low {q = q} {n = n} {f = f} {d = d} {rs = rs} x i m c a at there seen =
    let same : get_or c.actors n d ≡ a = get_or_from_slice_get c.actors n a d there in
    let mine = traced_at q n f d rs i c x.traced at in
    let first = new_view x.share f in
    let ws = column d n rs in
    let here = column_at d n rs i c at ∙ ap (λ (z : Actor). some z.view) same in
    let among = joins_met first ws i a.view here in
    let most = joins_seen first ws i a.view here in
    let number = x.left.rest.number in
    let top = x.left.kept.number.seen 0 (joins first ws) refl (joins first ws).seen.number (inl refl) in
    let gone : a.view.gone ≡ [] = ap (λ (z : Actor). z.view.gone) (sym same)
    ∙ trace_gone q n c.done (new_actor mine.share f) (get_or c.actors n d) mine.trace in
    ⊎_elim (λ e. omega arith)
    (λ e. let low = x.left.kept.number.seen 0 (joins first ws) refl m
    (inr (a.view.own, inr among, met_own a.view gone e.0 e.1 m e.2)) in omega arith) seen
  where
    met_own : (v : View) → v.gone ≡ [] → (z : Met) → IsMetOf v z → (m : ℕ) → Among m z.numbers → Among m v.own.numbers
    met_own v none z (inl e) m has = subst (λ (w : Met). Among m w.numbers) e has
    met_own v none z (inr (j, e)) m has =
        absurd (some-ne-none z (sym (sym (ap (λ (l : List Met). get_elem? l j) none) ∙ e)))

-- each generation is closed behind the phase where it was so before it, or some client has closed it, and not both
closes_one : {q n : ℕ} {f : Facts} {d : Actor} {rs : List Ran} {r : Resting} (x : IsBehind q n f d rs r) (g : ℕ)
    → g < q → truth (slice_index_or r.closed g false)
    ≡ truth (f.opening.closed g) + times g (joins (new_view x.share f) (column d n rs)).made.closings
closes_one {n = n} {f = f} {d = d} {rs = rs} {r = r} x g low =
    let v = joins (new_view x.share f) (column d n rs) in
    let within : g < stages f = let e = x.stage in omega arith in
    let is = x.left.rest.closed g within in
    let by = x.left.kept.accounted.closed g within in
    let once = x.left.kept.accounted.closed_once g within in
    let deeds = total (closings g) (v ∷ []) in
    either (slice_index_or r.closed g false) (f.opening.closed g) (times g v.made.closings)
    (λ e. by.0 (is.0 e)) (λ e. is.1 (by.1 e)) (λ some. once some)
  where
    either : (now was : Bool) (k : ℕ)
        → (now ≡ true → (was ≡ true) ⊎ (0 < k + 0)) → ((was ≡ true) ⊎ (0 < k + 0) → now ≡ true)
        → (0 < k + 0 → (k + 0 ≡ 1) × (was ≢ true)) → truth now ≡ truth was + k
    either true true k there back once = dite (ℕ_discrete k 0) (λ none. omega arith)
        (λ some. absurd ((once (omega arith)).1 refl))
    either true false k there back once = ⊎_elim (λ e. absurd cc) (λ some. let one = (once some).0 in omega arith)
        (there refl)
    either false true k there back once = let no = back (inl refl) in absurd cc
    either false false k there back once = dite (ℕ_discrete k 0) (λ none. omega arith)
        (λ some. let no = back (inr (omega arith)) in absurd cc)

closes_once : {q n : ℕ} {f : Facts} {d : Actor} {rs : List Ran} {r : Resting} (was : Resting) → IsBehind q n f d rs r
    → ((g : ℕ) → f.opening.closed g ≡ slice_index_or was.closed g false)
    → closed_below q r.closed
    ≡ closed_below q was.closed + (tale_of q n (flat_map (λ (z : Ran). z.done) rs)).closed
closes_once {q = q} {n = n} {f = f} {d = d} {rs = rs} {r = r} was x opening =
    let v = joins (new_view x.share f) (column d n rs) in
    let after = below_is q r.closed in
    let before = below_is q was.closed in
    let each = sum_same q (λ g. truth (slice_index_or r.closed g false))
    (λ g. truth (slice_index_or was.closed g false) + times g v.made.closings)
    (λ g low. closes_one x g low ∙ ap (λ b. truth b + times g v.made.closings) (opening g)) in
    let both = sum_both q (λ g. truth (slice_index_or was.closed g false)) (λ g. times g v.made.closings) in
    let joined = joins_closed q (new_view x.share f) (column d n rs) in
    let none = sum_zero q in
    let all = all_closed q n f d rs x.stage x.traced in omega arith
  where
    below_is : (q : ℕ) (l : List Bool) → closed_below q l ≡ sum_up q (λ g. truth (slice_index_or l g false))
    below_is zero l = refl
    below_is (suc q) l = let r = below_is q l in omega arith

creates : {q n : ℕ} {f : Facts} {d : Actor} {rs : List Ran} {r : Resting} → IsBehind q n f d rs r → (i k l : ℕ)
    (y z : Done) → DidAs rs i k y → DidAs rs i l z → k < l → 0 < (done_tale q n y).published (number_of 0)
    → (done_tale q n z).absent ≡ 0
creates {q = q} {n = n} {f = f} {d = d} {rs = rs} x i k l y z (c, at, there) (e, also, later) low made =
    let same : e ≡ c = cc in
    let mine = traced_at q n f d rs i c x.traced at in
    trace_creates q n c.done (new_actor mine.share f) (get_or c.actors n d) k l y z mine.trace there
    (subst (λ (w : Ran). slice_get w.done l ≡ Some z) same later) low made

-- each file behind a phase of several clients
behind : (s : Script) (phase now : ℕ) (before : List Resting) (done : List Done) (after : List Resting)
    (x : RunsLive s phase now before done after) (n : ℕ) (was r : Resting) → slice_get before n ≡ Some was
    → slice_get after n ≡ Some r
    → (f : Facts) × (d : Actor) × IsBehind (length r.book.shape.stages) n f d x.clients r
    × ((g : ℕ) → f.opening.closed g ≡ slice_index_or was.closed g false)
behind s phase now before done after x n was r there at =
    let t = share_of (length x.clients) in
    let firsts = map (new_view t) x.files in
    let e = spent_view in
    let found = left_view x.files (join_all firsts x.clients) after n r e x.left at in
    let f = found.0 in
    let d = new_actor 0 f in
    let stage : stages f ≡ length r.book.shape.stages =
    ap (λ (b : BookFacts). length b.shape.stages) (sym found.2.same.book) in
    let traced = all_traced s phase 1 (length r.book.shape.stages) n x.files f d x.clients stage found.1 x.ran in
    let low = file_low x.files n f found.1 in
    let wide = length-map x.files (new_view t) in
    let column_is = all_at firsts x.clients n d e (omega (arith, low, wide)) (all_have _ n f d x.clients traced) in
    let first_is : get_or firsts n e ≡ new_view t f =
    get_or-map (new_view t) x.files n f e low ∙ ap (new_view t) (file_at x.files n f f found.1) in (
      f,
      d,
      record {
        share = t;
        left = subst (λ (v : View). LeftBy f v r)
            (column_is ∙ ap (λ (v : View). joins v (column d n x.clients)) first_is) found.2;
        traced = traced;
        stage = stage;
      },
      λ g.
          let one = map_at untabled x.files n f found.1 in
          let other = map_at (λ z. facts_of z now (losses_of s phase)) before n was there in
          let both = sym one ∙ ap (λ (l : List Facts). slice_get l n) x.found ∙ other in
          let same : untabled f ≡ facts_of was now (losses_of s phase) = let z = both in cc in
          ap (λ (z : Facts). z.opening.closed g) same,
    )

pub clients_tell : ClientsTell
clients_tell s phase now before done after x n was r there at =
    let found = behind s phase now before done after x n was r there at in
    let b = found.2 in
    subst (λ (l : List Done). TellsOfFile (length r.book.shape.stages) n x.clients l was r) (sym x.in_order) (record {
      published_once = publishes_once b;
      published = publishes_low b;
      seen = sees_low b;
      closed_once = closes_once was b found.3;
      refused = refuses b;
      begun = begins b;
      pinned = pins_met b;
      created = creates b;
    })

-- ---- the files are at rest

all_rest : (files : List Facts) (views : List View) (after : List Resting) → AreLeft files views after
    → All AtRest after
all_rest [] [] [] are = All-nil AtRest
all_rest [] [] (r ∷ after) are = absurd are
all_rest [] (v ∷ views) after are = absurd are
all_rest (f ∷ files) [] after are = absurd are
all_rest (f ∷ files) (v ∷ views) [] are = absurd are
all_rest (f ∷ files) (v ∷ views) (r ∷ after) are =
    All-cons AtRest r after are.0.at_rest (all_rest files views after are.1)

pub files_rest : FilesRest
files_rest s phase now before done after (inl x) = x.at_rest
files_rest s phase now before done after (inr x) = all_rest x.files _ after x.left
