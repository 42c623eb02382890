-- An asking that a gathering made, out of what its asker keeps.
use Rattle.std.proofs.Common.{◌≡◌, ℕ, ◌+◌, ◌*◌, Bool, List, [], ◌∷◌, ◌++◌, length, map, All, Option, Some, None}
use Rattle.std.proofs.Common.{refl, sym, ap, ◌∙◌, subst, append_assoc, append-nil, inl, inr, arith}
use Rattle.std.proofs.Math.Logic.{∥∥₁_elim}
use Rattle.std.specs.List.{range_with_len}
use Rattle.std.specs.Coded.{coded_ℕ, Coded-set}
use mathlib.Core.HLevel.{×_prop}
use Rattle.mf_shape.specs.Stages.{width_at, parities_at}
use Rattle.mf_places.specs.declared.Name.{Name}
use Rattle.mf_places.specs.Facts.{BookFacts}
use Rattle.mf_places.specs.Generations.{pieces_of, pieces_at, parities_of_stripe}
use Rattle.mf_decode.specs.declared.gathering.Gathered.{Gathered}
use Rattle.mf_decode.specs.declared.gathering.Gathered.TheVariants as gathered
use Rattle.mf_decode.specs.declared.pieces.Asked.{Asked}
use Rattle.mf_decode.specs.declared.pieces.Place.{Place}
use Rattle.mf_decode.specs.Answers as decode
use Rattle.mf_decode.specs.Gathering.{IsAnswer, HasAsked}
use Rattle.mf_vault.specs.Facts.{Facts}
use Rattle.mf_vault.specs.Actor.{Actor, Call}
use Rattle.mf_vault.specs.Licence.{Does}
use Rattle.mf_vault.proofs.Doing.{facts_stay, nothing}
use Rattle.mf_read.specs.declared.asking.Wanting.{Wanting}
use Rattle.mf_read.specs.declared.asking.Wanting.TheVariants.{Room, Share}
use Rattle.mf_read.specs.declared.asking.Stop.{Stop}
use Rattle.mf_read.specs.Asking.{Ask, here, here_in, IsAsked, homes_of, IsAsking, IsServed, IsShort, IsCut, gets, gets}
use Rattle.mf_read.specs.Groups.{Group, IsGroup, IsSince, IsWanting, asks_of, names_at, since, told, want, stopped_at}
use Rattle.mf_read.specs.Gathers.{Gathers}
use Rattle.mf_read.specs.Stripes.{stripe_at}
use Rattle.mf_read.proofs.Grouped.{pieces_whole, pieces_begun, here_all}
use Rattle.mf_read.proofs.Parted.{Chunked, Opened, HasBegun, Pieced, pieced, Begins, begins, chunked_prop}
use Rattle.mf_read.proofs.Parted.{opened_prop, asked_begun, begun_front}
use Rattle.mf_read.proofs.Props.{does_prop}
use Rattle.mf_read.proofs.Sinces.{going}
use Rattle.mf_read.proofs.Told.{answers_of, since_gets, since_wanting, told_append, told_groups, told_front}

ℕ_set : IsSet ℕ
ℕ_set = Coded-set coded_ℕ

module _ (g j : ℕ) (start now : Actor) where
  abbrev f : Facts
  f = start.facts

  abbrev b : BookFacts
  b = start.facts.book

  abbrev r : ℕ
  r = parities_at b.shape.stages g

  abbrev homes : List (List Name)
  homes = map (homes_of b g) (pieces_at b g j)

  abbrev names : List Name
  names = parities_of_stripe b g j

  abbrev asked_now : List Ask
  asked_now = since start now

  -- all that an asking is, as a proposition
  abbrev Whole : ℕ → Type 0
  Whole n = Chunked homes 0 names asked_now × (here_in asked_now ≡ n) × Does (gets f asked_now ++ want Room) start now

  whole_prop : (n : ℕ) → IsProp (Whole n)
  whole_prop n = hlevel (chunked_prop homes 0 names asked_now, ℕ_set, does_prop f asked_now Room start now)

  homes_are : (hs : List Bool) → length hs ≡ pieces_of b g j
      → map (homes_of b g) (range_with_len (j * width_at b.shape.stages g + 0) (length hs)) ≡ homes
  homes_are hs e = let z : j * width_at b.shape.stages g + 0 ≡ j * width_at b.shape.stages g = omega arith in
      (λ i. map (homes_of b g) (range_with_len (z i) (e i)))

  told_now : (groups : List Group) → All (IsGroup b g j) groups → Does (gets f (asks_of groups)) start now
      → told now.facts.book g j asked_now ≡ answers_of groups
  told_now groups all does =
      (λ i. told (facts_stay does i).book g j (since_gets f (asks_of groups) does i)) ∙ told_groups b g j groups all

  whole_from : (hs qs : List Bool) (asked : List Asked) → decode.IsAsking (pieces_of b g j) r hs qs asked
      → told now.facts.book g j asked_now ≡ asked
      → IsSince g j start None now → Whole (here_in asked_now)
      × (here_in asked_now + decode.missing hs ≡ pieces_of b g j + decode.had qs)
  whole_from hs qs asked ask tells (groups, all, does) =
      let is = since_gets f (asks_of groups) does in
      let order : answers_of groups ≡ decode.pieces_from 0 hs ++ decode.parities_from 0 qs = sym
      (told_now groups all does) ∙ tells ∙ ask.order in
      let chunked = pieces_whole b g j 0 0 (decode.missing hs) r hs qs groups order all
      (omega arith) ask.exist ask.needed ask.ended in (
        (
          subst (Chunked homes 0 names) (sym is) (subst (λ (l : List (List Name)). Chunked l 0 names
              (asks_of groups)) (homes_are hs ask.each) chunked),
          refl,
          subst (λ (l : List Call). Does l start now) (sym (append-nil (gets f asked_now))) (subst (λ
              (l : List Ask). Does (gets f l) start now) (sym is) does),
        ),
        (let a = here_all b g j groups hs qs order all in let c = ap here_in is in let d = ask.each in omega arith),
      )

  -- out of what is kept
  whole : (hs qs : List Bool) (asked : List Asked) → decode.IsAsking (pieces_of b g j) r hs qs asked
      → told now.facts.book g j asked_now ≡ asked
      → ∥ IsSince g j start None now ∥₁ → Whole (here_in asked_now)
      × (here_in asked_now + decode.missing hs ≡ pieces_of b g j + decode.had qs)
  whole hs qs asked ask tells s =
      ∥∥₁_elim s (×_prop (whole_prop (here_in asked_now)) (ℕ_set (here_in asked_now + decode.missing hs)
      (pieces_of b g j + decode.had qs)))
      (λ x. whole_from hs qs asked ask tells x)

  asking_of : {n : ℕ} → Whole n → IsAsking b g j asked_now
  asking_of (is, n, does) =
      let p = pieced b g (pieces_at b g j) 0 names asked_now is in record {
        pieces = p.pieces;
        parities = p.parities;
        order = p.order;
        each = p.each;
        after = subst (λ (k : ℕ). IsAsked k names p.parities)
            (let z : Rattle.mf_read.specs.Asking.missing p.pieces + 0 ≡ Rattle.mf_read.specs.Asking.missing p.pieces
            = omega arith in z) p.after;
      }

  does_of : {n : ℕ} → Whole n → Does (gets f asked_now) start now
  does_of (is, n, does) = subst (λ (l : List Call). Does l start now) (append-nil (gets f asked_now)) does

  -- ---- want of memory

  abbrev wants : Option Stop → Wanting
  wants None = Room
  wants (Some stop) = stop.wanting

  -- the ask that wanted memory
  abbrev ahead : Wanting → List Ask
  ahead Room = []
  ahead (Share x) = (record { name = x; found = here }) ∷ []

  abbrev Cut : Option Stop → Type 0
  Cut stopped = Opened homes 0 names (asked_now ++ ahead (wants stopped))
      × Does (gets f asked_now ++ want (wants stopped)) start now

  cut_prop : (stopped : Option Stop) → IsProp (Cut stopped)
  cut_prop stopped = ×_prop (opened_prop homes 0 names (asked_now ++ ahead (wants stopped))) (does_prop f asked_now
      (wants stopped) start now)

  cut_none : (hs qs : List Bool) (asked rest : List Asked)
      → decode.IsAsking (pieces_of b g j) r hs qs (asked ++ rest) → told now.facts.book g j asked_now ≡ asked
      → IsSince g j start None now → Cut None
  cut_none hs qs asked rest ask tells (groups, all, does) =
      let is = since_gets f (asks_of groups) does in
      let order : answers_of groups ++ rest ≡ decode.pieces_from 0 hs ++ decode.parities_from 0 qs =
      ap (λ (l : List Asked). l ++ rest) (sym (told_now groups all does) ∙ tells) ∙ ask.order in
      let opened = pieces_begun b g j 0 0 (decode.missing hs) r hs qs groups rest [] order all
      (omega arith) ask.exist ask.needed (inl refl) in (
        subst (λ (l : List Ask). Opened homes 0 names (l ++ [])) (sym is) (subst (λ (l : List
            (List Name)). Opened l 0 names (asks_of groups ++ [])) (homes_are hs ask.each) opened),
        subst (λ (l : List Call). Does l start now) (sym (append-nil (gets f asked_now))) (subst (λ
            (l : List Ask). Does (gets f l) start now) (sym is) does),
      )

  -- the ask that wanted memory was the next one
  ahead_begun : (at : Place) (asks : List Ask) (next : Ask) (rest : List Ask) (w : Wanting)
      → IsAsked 1 (names_at b g j at) (asks ++ next ∷ rest) → IsWanting w next
      → HasBegun 1 (names_at b g j at) (asks ++ ahead w)
  ahead_begun at asks next rest Room is h =
      subst (HasBegun 1 (names_at b g j at)) (sym (append-nil asks)) (begun_front 1 (names_at b g j at) asks
      (next ∷ rest) (asked_begun 1 (names_at b g j at) (asks ++ next ∷ rest) is))
  ahead_begun at asks next rest (Share x) is (n, h) =
      let all = asked_begun 1 (names_at b g j at) (asks ++ next ∷ rest) is in
      let one : HasBegun 1 (names_at b g j at) (asks ++ next ∷ []) =
      begun_front 1 (names_at b g j at) (asks ++ next ∷ []) rest (subst (HasBegun 1 (names_at b g j at)) (sym
      (append_assoc asks (next ∷ []) rest)) all) in
      subst (λ (a : Ask). HasBegun 1 (names_at b g j at) (asks ++ a ∷ [])) (λ i. record { name = n i; found = h i }) one

  cut_some : (stop : Stop) (hs qs : List Bool) (asked rest : List Asked) (h : Bool)
      → decode.IsAsking (pieces_of b g j) r hs qs ((asked ++
      (record { place = stop.place; had = h }) ∷ []) ++ rest) → told now.facts.book g j asked_now ≡ asked
      → IsSince g j start (Some stop) now → Cut (Some stop)
  cut_some stop hs qs asked rest h ask tells (groups, asks, next, others, all, names_is, wanting, does) =
      let all_asks = asks_of groups ++ asks in
      let is = since_wanting f all_asks stop.wanting does in
      let at : Asked = record { place = stop.place; had = h } in
      let tells_groups : told now.facts.book g j asked_now ≡ answers_of groups =
      (λ i. told (facts_stay does i).book g j (is i)) ∙ told_append b g j (asks_of groups) asks
      ∙ (λ i. told_groups b g j groups all i ++ told_front b g j stop.place asks next others names_is i)
      ∙ append-nil (answers_of groups) in
      let order : answers_of groups ++ (at ∷ rest) ≡ decode.pieces_from 0 hs ++ decode.parities_from 0 qs =
      ap (λ (l : List Asked). l ++ (at ∷ rest)) (sym tells_groups ∙ tells)
      ∙ sym (append_assoc asked (at ∷ []) rest) ∙ ask.order in
      let part = asks ++ ahead stop.wanting in
      let begun = ahead_begun stop.place asks next others stop.wanting names_is wanting in
      let opened = pieces_begun b g j 0 0 (decode.missing hs) r hs qs groups (at ∷ rest) part order all
      (omega arith) ask.exist ask.needed (inr (at, rest, refl, begun)) in
      let whole_asks : asks_of groups ++ part ≡ asked_now ++ ahead stop.wanting =
      sym (append_assoc (asks_of groups) asks (ahead stop.wanting))
      ∙ ap (λ (l : List Ask). l ++ ahead stop.wanting) (sym is) in (
        subst (Opened homes 0 names) whole_asks (subst (λ (l : List (List Name)). Opened l 0 names
            (asks_of groups ++ part)) (homes_are hs ask.each) opened),
        subst (λ (l : List Ask). Does (gets f l ++ want stop.wanting) start now) (sym is) does,
      )

  is_cut : (w : Wanting) → Opened homes 0 names (asked_now ++ ahead w) → IsCut f g j (gets f asked_now ++ want w)
  is_cut w opened = by_want w (begins b g (pieces_at b g j) 0 names (asked_now ++ ahead w) opened)
    where
      asking : (asks : List Ask) → Pieced b g (pieces_at b g j) 0 names asks → IsAsking b g j asks
      asking asks p = record {
        pieces = p.pieces;
        parities = p.parities;
        order = p.order;
        each = p.each;
        after = subst (λ (k : ℕ). IsAsked k names p.parities)
            (let z : Rattle.mf_read.specs.Asking.missing p.pieces + 0 ≡ Rattle.mf_read.specs.Asking.missing p.pieces
            = omega arith in z) p.after;
      }

      by_want : (w : Wanting) → Begins b g (pieces_at b g j) 0 names (asked_now ++ ahead w)
          → IsCut f g j (gets f asked_now ++ want w)
      by_want Room p = (
        asked_now,
        p.rest,
        subst (λ (l : List Ask). IsAsking b g j (l ++ p.rest)) (append-nil asked_now)
            (asking _ p.all),
        inl (append-nil (gets f asked_now)),
      )
      by_want (Share x) p = (
        asked_now,
        (record { name = x; found = here }) ∷ p.rest,
        subst (IsAsking b g j) (append_assoc asked_now ((record { name = x; found = here }) ∷ []) p.rest)
            (asking _ p.all),
        inr (x, p.rest, refl, refl),
      )

  cut_of : (stopped : Option Stop) → Cut stopped → Gathers g j gathered.Memory start now
  cut_of stopped (opened, does) = (gets f asked_now ++ want (wants stopped), is_cut (wants stopped) opened, does)

  memory : (stopped : Option Stop) (asked : List Asked)
      → HasAsked (pieces_of b g j) r asked (stopped_at stopped) gathered.Memory
      → told now.facts.book g j asked_now ≡ asked
      → ∥ IsSince g j start stopped now ∥₁ → Gathers g j gathered.Memory start now
  memory None asked (hs, qs, rest, ask) tells s = cut_of None (∥∥₁_elim s (cut_prop None)
      (λ x. cut_none hs qs asked rest ask tells x))
  memory (Some stop) asked (h, (hs, qs, rest, ask)) tells s = cut_of (Some stop) (∥∥₁_elim s (cut_prop (Some stop))
      (λ x. cut_some stop hs qs asked rest h ask tells x))

  kept_none : (stopped : Option Stop) → stopped_at stopped ≡ None → ∥ IsSince g j start stopped now ∥₁
      → ∥ IsSince g j start None now ∥₁
  kept_none stopped e s = subst (λ (o : Option Stop). ∥ IsSince g j start o now ∥₁) (going stopped e) s

  pub gathers : (result : Gathered) (stopped : Option Stop) (asked : List Asked) → IsAnswer (stripe_at f g j) result
      → HasAsked (pieces_of b g j) r asked (stopped_at stopped) result → told now.facts.book g j asked_now ≡ asked
      → ∥ IsSince g j start stopped now ∥₁
      → Gathers g j result start now
  gathers (gathered.All chunks) stopped asked answer ((hs, qs, ask, enough), none) tells s =
      let w = whole hs qs asked ask tells (kept_none stopped none s) in
      let count = w.1 in
      (asked_now, (asking_of w.0, (omega arith)), does_of w.0, answer.data_list)
  gathers gathered.Short stopped asked answer ((hs, qs, ask, few), none) tells s =
      let w = whole hs qs asked ask tells (kept_none stopped none s) in
      let count = w.1 in
      (asked_now, (asking_of w.0, (omega arith)), does_of w.0)
  gathers gathered.Memory stopped asked answer has tells s = memory stopped asked has tells s

-- in the words of the call
since_start : (a : Actor) → since a a ≡ []
since_start a = since_gets a.facts [] (nothing a)

pub gathers_by : (g j h k : ℕ) (start old now : Actor) (stopped : Option Stop) (result : Gathered)
    (count points : ℕ) → start ≡ old → h ≡ g → k ≡ j
    → count ≡ pieces_of old.facts.book g j → points ≡ parities_at old.facts.book.shape.stages g
    → IsAnswer (stripe_at old.facts g j) result
    → ((asked : List Asked) × (told now.facts.book h k (since start now) ≡ told old.facts.book g j
    (since start old) ++ asked)
    × HasAsked count points asked (stopped_at stopped) result)
    → ∥ IsSince h k start stopped now ∥₁ → Gathers g j result old now
gathers_by g j h k start old now stopped result count points es eg ej ec ep answer (asked, tells, has) s =
    let s' = subst (λ (x : ℕ). ∥ IsSince x j start stopped now ∥₁) eg (subst (λ
    (x : ℕ). ∥ IsSince h x start stopped now ∥₁) ej s) in
    let none : told old.facts.book g j (since start old) ≡ [] =
    ap (told old.facts.book g j) (ap (λ (a : Actor). since start a) (sym es) ∙ since_start start) in
    let tells' : told now.facts.book g j (since start now) ≡ asked =
    (λ i. told now.facts.book (sym eg i) (sym ej i) (since start now)) ∙ tells
    ∙ ap (λ (l : List Asked). l ++ asked) none in
    let count' : count ≡ pieces_of start.facts.book g j = ec
    ∙ ap (λ (a : Actor). pieces_of a.facts.book g j) (sym es) in
    let points' : points ≡ parities_at start.facts.book.shape.stages g = ep
    ∙ ap (λ (a : Actor). parities_at a.facts.book.shape.stages g) (sym es) in
    let has' = subst (λ (n : ℕ). HasAsked n (parities_at start.facts.book.shape.stages g) asked
    (stopped_at stopped) result) count'
    (subst (λ (n : ℕ). HasAsked count n asked (stopped_at stopped) result) points' has) in
    let answer' = subst (λ (a : Actor). IsAnswer (stripe_at a.facts g j) result) (sym es) answer in
    subst (λ (a : Actor). Gathers g j result a now) es
    (gathers g j start now result stopped asked answer' has' tells' s')
