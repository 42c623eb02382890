-- How many names a short asking found lost, and how many a served one had.
use Rattle.std.proofs.Common.{◌≡◌, ℕ, zero, suc, ◌+◌, ◌-◌, ◌*◌, ◌<◌, ◌≤◌, min, List, [], ◌∷◌, ◌++◌, length, map, refl}
use Rattle.std.proofs.Common.{sym, ap, ◌∙◌, subst, ⊎_elim, arith, length-append}
use Rattle.std.specs.List.{range_with_len}
use Rattle.std.proofs.lemmas.List.FromFn.{length-map-range_with_len, length-range_with_len as length-range}
use Rattle.std.proofs.lemmas.Bool.{cases_lt}
use Rattle.mf_shape.specs.Stages.{width_at, copies_at, parities_at}
use Rattle.mf_places.specs.declared.Name.{Name}
use Rattle.mf_places.specs.declared.Name.TheVariants as name
use Rattle.mf_places.specs.Facts.{BookFacts, chunks_of}
use Rattle.mf_places.specs.Generations.{pieces_of, pieces_at, parities_of_stripe}
use Rattle.mf_read.specs.Asking.{Found, Ask, here, lost, away, one_here, here_in, one_lost, lost_in, one_away}
use Rattle.mf_read.specs.Asking.{away_in, still, IsAsked, homes_of, AreAsked, missing, joined}
use Rattle.mf_read.specs.Laws.{ShortHasLost}
use Rattle.mf_read.specs.Reading.{AreServed}
use Rattle.mf_read.proofs.Asked.{here_append}
use Rattle.mf_read.proofs.Entries.{lost_append, away_append}

-- each ask was Here, Lost or Away
one_of : (x : Name) (r : Found) (l a : List (Name × ℕ))
    → length (one_lost x r ++ l) + length (one_away x r ++ a) + one_here r ≡ 1 + length l + length a
one_of x here l a = omega arith
one_of x (lost n) l a = let e : length ((x, n) ∷ l) ≡ suc (length l) = refl in omega arith
one_of x (away s) l a = let e : length ((x, s) ∷ a) ≡ suc (length a) = refl in omega arith

each_of : (asks : List Ask) → length (lost_in asks) + length (away_in asks) + here_in asks ≡ length asks
each_of [] = refl
each_of (a ∷ asks) =
    let e = each_of asks in
    let d = one_of a.name a.found (lost_in asks) (away_in asks) in
    let f : length (a ∷ asks) ≡ suc (length asks) = refl in omega arith

-- where fewer than wanted were Here, all were asked for
all_by : (n : ℕ) (names : List Name) (r : Found) (asks : List Ask) → one_here r + here_in asks < suc n
    → (IsAsked n names asks → here_in asks < n → length asks ≡ length names) → (IsAsked (suc n) names asks
    → here_in asks < suc n → length asks ≡ length names)
    → IsAsked (still r n) names asks → length asks ≡ length names
all_by n names here asks low one more is = one is (omega arith)
all_by n names (lost l) asks low one more is = more is (omega arith)
all_by n names (away s) asks low one more is = more is (omega arith)

all_asked : (n : ℕ) (names : List Name) (asks : List Ask) → IsAsked n names asks → here_in asks < n
    → length asks ≡ length names
all_asked zero names asks is low = absurd (omega arith)
all_asked (suc n) [] asks is low = ap length is
all_asked (suc n) (x ∷ names) [] is low = absurd is
all_asked (suc n) (x ∷ names) (a ∷ asks) (e, is) low =
    let r = all_by n names a.found asks low (λ i l. all_asked n names asks i l) (λ i l. all_asked
    (suc n) names asks i l) is in
    let s : length (a ∷ asks) ≡ suc (length asks) = refl in
    let t : length (x ∷ names) ≡ suc (length names) = refl in omega arith

-- at most so many were Here
most_by : (n : ℕ) (names : List Name) (r : Found) (asks : List Ask) → (IsAsked n names asks → here_in asks ≤ n)
    → (IsAsked (suc n) names asks → here_in asks ≤ suc n)
    → IsAsked (still r n) names asks → one_here r + here_in asks ≤ suc n
most_by n names here asks one more is = let e = one is in omega arith
most_by n names (lost l) asks one more is = let e = more is in omega arith
most_by n names (away s) asks one more is = let e = more is in omega arith

most_here : (n : ℕ) (names : List Name) (asks : List Ask) → IsAsked n names asks → here_in asks ≤ n
most_here zero names asks is = let e = ap here_in is in omega arith
most_here (suc n) [] asks is = let e = ap here_in is in omega arith
most_here (suc n) (x ∷ names) [] is = absurd is
most_here (suc n) (x ∷ names) (a ∷ asks) (e, is) =
    most_by n names a.found asks (λ i. most_here n names asks i) (λ i. most_here (suc n) names asks i) is

-- the parts of an asking in which no name was Away
none_left : (xs ys : List (Name × ℕ)) → xs ++ ys ≡ [] → (length xs ≡ 0) × (length ys ≡ 0)
none_left xs ys e = let l = ap length e in let a = length-append xs ys in ((omega arith), (omega arith))

module _ (b : BookFacts) (g : ℕ) where
  homes_long : (i : ℕ) → length (homes_of b g i) ≡ copies_at b.shape.stages g + 1
  homes_long i = let e = length-map-range_with_len (λ (c : ℕ). name.Copy c i) 0 (copies_at b.shape.stages g) in
      let d : length (homes_of b g i) ≡ suc (length (map (λ (c : ℕ). name.Copy c i) (range_with_len 0
      (copies_at b.shape.stages g)))) = refl in omega arith

  pub pieces_here : (chunks : List ℕ) (pieces : List (List Ask)) → AreAsked b g chunks pieces
      → here_in (joined pieces) + missing pieces ≡ length chunks
  pieces_here [] pieces is = subst (λ (l : List (List Ask)). here_in (joined l) + missing l ≡ 0) (sym is) refl
  pieces_here (i ∷ chunks) [] is = absurd is
  pieces_here (i ∷ chunks) (asks ∷ pieces) (is, rest) =
      let e = pieces_here chunks pieces rest in
      let m = most_here 1 (homes_of b g i) asks is in
      let a = here_append asks (joined pieces) in
      let d : length (i ∷ chunks) ≡ suc (length chunks) = refl in omega arith

  pieces_lost : (chunks : List ℕ) (pieces : List (List Ask)) → AreAsked b g chunks pieces
      → length (away_in (joined pieces)) ≡ 0 → 0 < missing pieces
      → missing pieces + copies_at b.shape.stages g ≤ length (lost_in (joined pieces))
  pieces_lost [] pieces is none some = absurd (let e = ap missing is in omega arith)
  pieces_lost (i ∷ chunks) [] is none some = absurd is
  pieces_lost (i ∷ chunks) (asks ∷ pieces) (is, rest) none some =
      let l = ap length (lost_append asks (joined pieces)) in
      let l' = length-append (lost_in asks) (lost_in (joined pieces)) in
      let a = ap length (away_append asks (joined pieces)) in
      let a' = length-append (away_in asks) (away_in (joined pieces)) in
      let m = most_here 1 (homes_of b g i) asks is in
      let each = each_of asks in
      let homes = homes_long i in
      let long : here_in asks < 1 → length asks ≡ length (homes_of b g i) = all_asked 1 (homes_of b g i) asks is in
      let more : 0 < missing pieces → missing pieces + copies_at b.shape.stages g ≤ length (lost_in
      (joined pieces)) = pieces_lost chunks pieces rest (omega arith) in
      let none' : length (away_in (asks ++ joined pieces)) ≡ 0 = none in
      let all : (1 - here_in asks) + missing pieces + copies_at b.shape.stages g ≤ length (lost_in
      (asks ++ joined pieces)) =
      ⊎_elim
      (λ (gone : here_in asks < 1). let here_long = long gone in ⊎_elim
      (λ (some : 0 < missing pieces). let others = more some in omega arith)
      (λ (few : missing pieces ≤ 0). omega arith) (cases_lt 0 (missing pieces)))
      (λ (one : 1 ≤ here_in asks). let others = more (omega arith) in omega arith)
      (cases_lt (here_in asks) 1) in all

  pieces_count : (j : ℕ) → length (pieces_at b g j) ≡ pieces_of b g j
  pieces_count j = length-range (j * width_at b.shape.stages g) (pieces_of b g j)

pub short_has_lost : ShortHasLost
short_has_lost b g j asks (asking, few) none =
    let pieces = asking.pieces in
    let parities = asking.parities in
    let order = asking.order in
    let here_is = ap here_in order in
    let here_two = here_append (joined pieces) parities in
    let count = pieces_here b g (pieces_at b g j) pieces asking.each in
    let long = pieces_count b g j in
    let low : here_in parities < missing pieces = omega arith in
    let (away_pieces, away_parities) = none_left (away_in (joined pieces)) (away_in parities) (sym (away_append
    (joined pieces) parities) ∙ ap away_in (sym order) ∙ none) in
    let lost_pieces = pieces_lost b g (pieces_at b g j) pieces asking.each away_pieces (omega arith) in
    let all = all_asked (missing pieces) (parities_of_stripe b g j) parities asking.after low in
    let names = length-map-range_with_len (λ (p : ℕ). name.Parity (width_at b.shape.stages g) j p) 0
    (parities_at b.shape.stages g) in
    let each = each_of parities in
    let lost_is = ap length (ap lost_in order ∙ lost_append (joined pieces) parities) in
    let lost_two = length-append (lost_in (joined pieces)) (lost_in parities) in
    omega arith

-- a served asking has had each chunk, and so have all of them
pub served_here : (b : BookFacts) (g n : ℕ) (asks : List Ask) → AreServed b g n asks
    → here_in asks ≡ min (n * width_at b.shape.stages g) (chunks_of b)
served_here b g zero asks is = let e = ap here_in is in let z : 0 * width_at b.shape.stages g ≡ 0 = omega arith in
    omega arith
served_here b g (suc n) asks (front, last, before, (asking, had), order) =
    let e = ap here_in order in
    let d = here_append front last in
    let f = served_here b g n front before in
    let w = width_at b.shape.stages g in
    let s : suc n * w ≡ (n + 1) * w = ap (λ (k : ℕ). k * w) (let z : suc n ≡ n + 1 = omega arith in z) in
    omega arith
