-- From groups in the order of a gathering to an asking.
use Rattle.std.proofs.Common.{◌≡◌, ℕ, zero, suc, ◌+◌, ◌-◌, ◌<◌, ◌≤◌, ◌⊎◌, Bool, true, false, not, nat_lt, List, []}
use Rattle.std.proofs.Common.{◌∷◌, ◌++◌, length, take, map, All}
use Rattle.std.proofs.Common.{cond, refl, sym, ap, ◌∙◌, subst, append_assoc, inl, inr, ⊎_elim, arith}
use Rattle.std.specs.List.{range_with_len}
use Rattle.std.proofs.lemmas.Bool.Decides.{nat_tests}
use Rattle.std.proofs.lemmas.List.Elements.{All-head, All-tail}
use Rattle.std.proofs.lemmas.List.Sums.{sum_by-cons}
use Rattle.mf_shape.specs.Stages.{width_at}
use Rattle.mf_places.specs.declared.Name.{Name}
use Rattle.mf_places.specs.declared.Name.TheVariants as name
use Rattle.mf_places.specs.Facts.{BookFacts}
use Rattle.mf_decode.specs.declared.pieces.Asked.{Asked}
use Rattle.mf_decode.specs.declared.pieces.Place.{Place}
use Rattle.mf_decode.specs.declared.pieces.Place.TheVariants as place
use Rattle.mf_decode.specs.Answers.{pieces_from, parities_from, had}
use Rattle.mf_decode.specs.Answers as decode
use Rattle.mf_read.specs.Asking.{Found, Ask, here, lost, away, one_here, here_in, still, IsAsked, homes_of}
use Rattle.mf_read.specs.Groups.{Group, IsGroup, asks_of, start_of, names_at}
use Rattle.mf_read.proofs.Asked.{here_append}
use Rattle.mf_read.proofs.Told.{answers_of}
use Rattle.mf_read.proofs.Parted.{Chunked, Opened, HasBegun, front, parts_whole, parts_begun, asked_begun, opened_nil}
use Rattle.mf_read.proofs.Parted.{begun_nil}

-- ---- counts of what was had

had_cons : (h : Bool) (hs : List Bool) → had (h ∷ hs) ≡ had (h ∷ []) + had hs
had_cons h hs = let a = sum_by-cons (λ (h : Bool). cond h 1 0) h hs in
    let b = sum_by-cons (λ (h : Bool). cond h 1 0) h [] in omega arith

had_yes : (hs : List Bool) → had (true ∷ hs) ≡ 1 + had hs
had_yes hs = sum_by-cons (λ (h : Bool). cond h 1 0) true hs

had_no : (hs : List Bool) → had (false ∷ hs) ≡ had hs
had_no hs = let a = sum_by-cons (λ (h : Bool). cond h 1 0) false hs in omega arith

missing_yes : (hs : List Bool) → decode.missing (true ∷ hs) ≡ decode.missing hs
missing_yes hs = let a = sum_by-cons (λ (h : Bool). cond (not h) 1 0) true hs in omega arith

missing_no : (hs : List Bool) → decode.missing (false ∷ hs) ≡ 1 + decode.missing hs
missing_no hs = sum_by-cons (λ (h : Bool). cond (not h) 1 0) false hs

-- the first of equal lists
head_is : {A : Type 0} {x y : A} {xs ys : List A} → x ∷ xs ≡ y ∷ ys → x ≡ y
head_is e = cc

tail_is : {A : Type 0} {x y : A} {xs ys : List A} → x ∷ xs ≡ y ∷ ys → xs ≡ ys
tail_is e = cc

-- at most one of the names of a place is Here
one_by : (names : List Name) (r : Found) (asks : List Ask) → IsAsked (still r 0) names asks → (IsAsked 1 names asks
    → here_in asks ≤ 1) → one_here r + here_in asks ≤ 1
one_by names here asks is ih = subst (λ (l : List Ask). 1 + here_in l ≤ 1) (sym is) (omega arith)
one_by names (lost l) asks is ih = let e = ih is in omega arith
one_by names (away s) asks is ih = let e = ih is in omega arith

one_most : (names : List Name) (asks : List Ask) → IsAsked 1 names asks → here_in asks ≤ 1
one_most [] asks is = subst (λ (l : List Ask). here_in l ≤ 1) (sym is) (omega arith)
one_most (x ∷ names) [] is = absurd is
one_most (x ∷ names) (a ∷ asks) (e, is) = one_by names a.found asks is (λ more. one_most names asks more)

-- so a group that was had has one, and else none
group_had : (names : List Name) (asks : List Ask) (h : Bool) → IsAsked 1 names asks → h ≡ nat_lt 0 (here_in asks)
    → here_in asks ≡ had (h ∷ [])
group_had names asks true is e = let m = one_most names asks is in let y = had_yes [] in
    let z : 0 < here_in asks = grind (arith, nat_tests) in omega arith
group_had names asks false is e = let y = had_no [] in let z : here_in asks ≡ 0 = grind (arith, nat_tests) in
    omega arith

-- ---- parities

-- one parity, and others while they are wanted
more_wanted : (n : ℕ) (x : Name) (names : List Name) (r : Found) (asks others : List Ask) (q : Bool) → asks ≡ []
    → q ≡ nat_lt 0 (one_here r + here_in asks)
    → (q ≡ true → IsAsked n names others) → (q ≡ false → IsAsked (suc n) names others)
    → IsAsked (still r n) names (asks ++ others)
more_wanted n x names here asks others q e h had_it not_it =
    subst (λ (l : List Ask). IsAsked n names (l ++ others)) (sym e) (had_it (h
    ∙ ap (λ (l : List Ask). nat_lt 0 (1 + here_in l)) e))
more_wanted n x names (lost l) asks others q e h had_it not_it =
    subst (λ (k : List Ask). IsAsked (suc n) names (k ++ others)) (sym e) (not_it (h
    ∙ ap (λ (k : List Ask). nat_lt 0 (0 + here_in k)) e))
more_wanted n x names (away s) asks others q e h had_it not_it =
    subst (λ (k : List Ask). IsAsked (suc n) names (k ++ others)) (sym e) (not_it (h
    ∙ ap (λ (k : List Ask). nat_lt 0 (0 + here_in k)) e))

none_wanted : (r : Found) (asks : List Ask) → IsAsked (still r 0) [] asks → asks ≡ []
none_wanted here asks is = is
none_wanted (lost l) asks is = is
none_wanted (away s) asks is = is

one_parity : (n : ℕ) (x : Name) (names : List Name) (asks others : List Ask) (q : Bool) → IsAsked 1 (x ∷ []) asks
    → q ≡ nat_lt 0 (here_in asks)
    → (q ≡ true → IsAsked n names others) → (q ≡ false → IsAsked (suc n) names others)
    → IsAsked (suc n) (x ∷ names) (asks ++ others)
one_parity n x names [] others q is h had_it not_it = absurd is
one_parity n x names (a ∷ asks) others q (e, is) h had_it not_it = (
  e,
  more_wanted n x names a.found asks others q (none_wanted a.found asks is) h had_it not_it,
)

more_begun : (n : ℕ) (names : List Name) (r : Found) (asks others : List Ask) (q : Bool) → asks ≡ []
    → q ≡ nat_lt 0 (one_here r + here_in asks)
    → (q ≡ true → HasBegun n names others) → (q ≡ false → HasBegun (suc n) names others)
    → HasBegun (still r n) names (asks ++ others)
more_begun n names here asks others q e h had_it not_it =
    subst (λ (l : List Ask). HasBegun n names (l ++ others)) (sym e) (had_it (h
    ∙ ap (λ (l : List Ask). nat_lt 0 (1 + here_in l)) e))
more_begun n names (lost l) asks others q e h had_it not_it =
    subst (λ (k : List Ask). HasBegun (suc n) names (k ++ others)) (sym e) (not_it (h
    ∙ ap (λ (k : List Ask). nat_lt 0 (0 + here_in k)) e))
more_begun n names (away s) asks others q e h had_it not_it =
    subst (λ (k : List Ask). HasBegun (suc n) names (k ++ others)) (sym e) (not_it (h
    ∙ ap (λ (k : List Ask). nat_lt 0 (0 + here_in k)) e))

one_begun : (n : ℕ) (x : Name) (names : List Name) (asks others : List Ask) (q : Bool) → IsAsked 1 (x ∷ []) asks
    → q ≡ nat_lt 0 (here_in asks)
    → (q ≡ true → HasBegun n names others) → (q ≡ false → HasBegun (suc n) names others)
    → HasBegun (suc n) (x ∷ names) (asks ++ others)
one_begun n x names [] others q is h had_it not_it = absurd is
one_begun n x names (a ∷ asks) others q (e, is) h had_it not_it = (
  e,
  more_begun n names a.found asks others q (none_wanted a.found asks is) h had_it not_it,
)

module _ (b : BookFacts) (g j : ℕ) where
  abbrev names_from : ℕ → ℕ → List Name
  names_from p n = map (λ p. name.Parity (width_at b.shape.stages g) j p) (range_with_len p n)

  abbrev AllGroups : List Group → Type 0
  AllGroups groups = All (IsGroup b g j) groups

  first_group : (x : Group) (groups : List Group) → AllGroups (x ∷ groups) → IsGroup b g j x
  first_group x groups all = All-head (IsGroup b g j) x groups all

  other_groups : (x : Group) (groups : List Group) → AllGroups (x ∷ groups) → AllGroups groups
  other_groups x groups all = All-tail (IsGroup b g j) x groups all

  -- the first group is of this place
  group_at : (x : Group) (at : Place) (q : Bool) → x.asked ≡ record { place = at; had = q } → IsGroup b g j x
      → IsAsked 1 (names_at b g j at) x.asks × (q ≡ nat_lt 0 (here_in x.asks))
  group_at x at q e is = (
    subst (λ (a : Asked). IsAsked 1 (names_at b g j a.place) x.asks) e is.names,
    ap (λ (a : Asked). a.had) (sym e) ∙ is.had,
  )

  -- each parity is asked for while it is wanted
  abbrev IsWanted : ℕ → List Bool → Type 0
  IsWanted e qs = (k : ℕ) → k < length qs → had (take k qs) < e

  wanted_on : (e : ℕ) (q : Bool) (qs : List Bool) → IsWanted (suc e) (q ∷ qs) → q ≡ true → IsWanted e qs
  wanted_on e q qs h is k low =
      let a : had (take (suc k) (true ∷ qs)) < suc e = subst (λ (z : Bool). had (take (suc k) (z ∷ qs)) < suc e) is
      (h (suc k) (let z : suc k < suc (length qs) = omega arith in z)) in
      let y = had_yes (take k qs) in omega arith

  wanted_still : (e : ℕ) (q : Bool) (qs : List Bool) → IsWanted (suc e) (q ∷ qs) → q ≡ false → IsWanted (suc e) qs
  wanted_still e q qs h is k low =
      let a : had (take (suc k) (false ∷ qs)) < suc e = subst (λ (z : Bool). had (take (suc k) (z ∷ qs)) < suc e) is
      (h (suc k) (let z : suc k < suc (length qs) = omega arith in z)) in
      let y = had_no (take k qs) in omega arith

  abbrev IsEnded : (e n : ℕ) → List Bool → Type 0
  IsEnded e n qs = (had qs ≡ e) ⊎ (length qs ≡ n)

  ended_on : (e n : ℕ) (q : Bool) (qs : List Bool) → IsEnded (suc e) (suc n) (q ∷ qs) → q ≡ true → IsEnded e n qs
  ended_on e n q qs h is = ⊎_elim
      (λ x. inl (let a : had (true ∷ qs) ≡ suc e = subst (λ (z : Bool). had (z ∷ qs) ≡ suc e) is x in
      let y = had_yes qs in omega arith))
      (λ x. inr (let z : suc (length qs) ≡ suc n = x in omega arith)) h

  ended_still : (e n : ℕ) (q : Bool) (qs : List Bool) → IsEnded (suc e) (suc n) (q ∷ qs) → q ≡ false
      → IsEnded (suc e) n qs
  ended_still e n q qs h is = ⊎_elim
      (λ x. inl (let a : had (false ∷ qs) ≡ suc e = subst (λ (z : Bool). had (z ∷ qs) ≡ suc e) is x in
      let y = had_no qs in omega arith))
      (λ x. inr (let z : suc (length qs) ≡ suc n = x in omega arith)) h

  never_wanted : (q : Bool) (qs : List Bool) → IsWanted 0 (q ∷ qs) → ⊥
  never_wanted q qs h = let z = h 0 (let z : 0 < suc (length qs) = omega arith in z) in omega arith

  nothing_left : (p e n : ℕ) → IsEnded e n [] → IsAsked e (names_from p n) []
  nothing_left p zero n h = refl
  nothing_left p (suc e) zero h = refl
  nothing_left p (suc e) (suc n) h = absurd (⊎_elim (λ x. let z : 0 ≡ suc e = x in
      omega arith) (λ x. let z : 0 ≡ suc n = x in omega arith) h)

  parities_whole : (p n e : ℕ) (qs : List Bool) (groups : List Group) → answers_of groups ≡ parities_from p qs
      → AllGroups groups → length qs ≤ n
      → IsWanted e qs → IsEnded e n qs → IsAsked e (names_from p n) (asks_of groups)
  parities_whole p n e [] [] eq all low want end = nothing_left p e n end
  parities_whole p n e [] (x ∷ groups) eq all low want end = absurd (let z : x.asked ∷ answers_of groups ≡ [] = eq in
      cc)
  parities_whole p n e (q ∷ qs) [] eq all low want end = absurd (let z : [] ≡
      (record { place = place.Parity p; had = q }) ∷ parities_from (p + 1) qs = eq in cc)
  parities_whole p zero e (q ∷ qs) (x ∷ groups) eq all low want end = absurd (let z : suc (length qs) ≤ 0 = low in
      omega arith)
  parities_whole p (suc n) zero (q ∷ qs) (x ∷ groups) eq all low want end = absurd (never_wanted q qs want)
  parities_whole p (suc n) (suc e) (q ∷ qs) (x ∷ groups) eq all low want end =
      let (is, h) = group_at x (place.Parity p) q (head_is eq) (first_group x groups all) in
      let few : length qs ≤ n = let z : suc (length qs) ≤ suc n = low in omega arith in
      let others = other_groups x groups all in
      one_parity e (name.Parity (width_at b.shape.stages g) j p) (names_from (p + 1) n) x.asks (asks_of groups) q is h
      (λ y. parities_whole (p + 1) n e qs groups (tail_is eq) others few (wanted_on e q qs want y)
      (ended_on e n q qs end y))
      (λ y. parities_whole (p + 1) n (suc e) qs groups (tail_is eq) others few (wanted_still e q qs want y)
      (ended_still e n q qs end y))

  -- what stands behind the groups: nothing, or the front of what the next place is asked by
  abbrev IsTail : List Asked → List Ask → Type 0
  IsTail tail part = (part ≡ []) ⊎ ((at : Asked) × (more : List Asked) × (tail ≡ at ∷ more)
      × HasBegun 1 (names_at b g j at.place) part)

  part_of : (e n p : ℕ) (names : List Name) (part : List Ask)
      → HasBegun 1 (name.Parity (width_at b.shape.stages g) j p ∷ []) part
      → HasBegun (suc e) (name.Parity (width_at b.shape.stages g) j p ∷ names) part
  part_of e n p names [] is = tt
  part_of e n p names (a ∷ asks) (q, is) = (
    q,
    subst (HasBegun (still a.found e) names) (sym
        (none_more a.found asks is)) (begun_nil (still a.found e) names),
  )
    where
      none_more : (r : Found) (asks : List Ask) → HasBegun (still r 0) [] asks → asks ≡ []
      none_more here asks is = is
      none_more (lost l) asks is = is
      none_more (away s) asks is = is

  part_alone : (p n e : ℕ) (qs : List Bool) (tail : List Asked) (part : List Ask) → tail ≡ parities_from p qs
      → length qs ≤ n → IsWanted e qs → IsTail tail part
      → HasBegun e (names_from p n) part
  part_alone p n e qs tail part eq low want (inl none) = subst (HasBegun e (names_from p n)) (sym none) (begun_nil e
      (names_from p n))
  part_alone p n e [] tail part eq low want (inr (at, more, is, begun)) = absurd (let z : at ∷ more ≡ [] = sym is
      ∙ eq in cc)
  part_alone p zero e (q ∷ qs) tail part eq low want (inr y) = absurd (let z : suc (length qs) ≤ 0 = low in omega arith)
  part_alone p (suc n) zero (q ∷ qs) tail part eq low want (inr y) = absurd (never_wanted q qs want)
  part_alone p (suc n) (suc e) (q ∷ qs) tail part eq low want (inr (at, more, is, begun)) =
      let z : at ∷ more ≡ (record { place = place.Parity p; had = q }) ∷ parities_from (p + 1) qs = sym is ∙ eq in
      part_of e n p (names_from (p + 1) n) part (subst (λ (a : Asked). HasBegun 1 (names_at b g j a.place) part)
      (head_is z) begun)

  parities_begun : (p n e : ℕ) (qs : List Bool) (groups : List Group) (tail : List Asked) (part : List Ask)
      → answers_of groups ++ tail ≡ parities_from p qs
      → AllGroups groups → length qs ≤ n → IsWanted e qs → IsTail tail part
      → HasBegun e (names_from p n) (asks_of groups ++ part)
  parities_begun p n e qs [] tail part eq all low want end = part_alone p n e qs tail part eq low want end
  parities_begun p n e [] (x ∷ groups) tail part eq all low want end = absurd (let z : x.asked ∷
      (answers_of groups ++ tail) ≡ [] = eq in cc)
  parities_begun p zero e (q ∷ qs) (x ∷ groups) tail part eq all low want end = absurd (let z : suc
      (length qs) ≤ 0 = low in omega arith)
  parities_begun p (suc n) zero (q ∷ qs) (x ∷ groups) tail part eq all low want end = absurd (never_wanted q qs want)
  parities_begun p (suc n) (suc e) (q ∷ qs) (x ∷ groups) tail part eq all low want end =
      let (is, h) = group_at x (place.Parity p) q (head_is eq) (first_group x groups all) in
      let few : length qs ≤ n = let z : suc (length qs) ≤ suc n = low in omega arith in
      let others = other_groups x groups all in
      let names = names_from (p + 1) n in
      subst (HasBegun (suc e) (name.Parity (width_at b.shape.stages g) j p ∷ names)) (sym (append_assoc x.asks
      (asks_of groups) part))
      (one_begun e (name.Parity (width_at b.shape.stages g) j p) names x.asks (asks_of groups ++ part) q is h
      (λ y. parities_begun (p + 1) n e qs groups tail part (tail_is eq) others few (wanted_on e q qs want y) end)
      (λ y. parities_begun (p + 1) n (suc e) qs groups tail part (tail_is eq) others few
      (wanted_still e q qs want y) end))

  -- ---- pieces

  abbrev homes_from : ℕ → ℕ → List (List Name)
  homes_from i n = map (homes_of b g) (range_with_len i n)

  count_step : (h : Bool) (hs : List Bool) (e n m : ℕ) → n ≡ had (h ∷ []) → e + decode.missing (h ∷ hs) ≡ m
      → ((1 - n) + e) + decode.missing hs ≡ m
  count_step true hs e n m is eq = let a = had_yes [] in let c = missing_yes hs in omega arith
  count_step false hs e n m is eq = let a = had_no [] in let c = missing_no hs in omega arith

  first_count : (hs : List Bool) (e m : ℕ) → hs ≡ [] → e + decode.missing hs ≡ m → m ≡ e
  first_count hs e m is eq = let z : decode.missing hs ≡ 0 = ap decode.missing is in omega arith

  pub pieces_whole : (t e m r : ℕ) (hs qs : List Bool) (groups : List Group)
      → answers_of groups ≡ pieces_from t hs ++ parities_from 0 qs → AllGroups groups
      → e + decode.missing hs ≡ m → length qs ≤ r → IsWanted m qs → IsEnded m r qs
      → Chunked (homes_from (start_of b g j + t) (length hs)) e (names_from 0 r) (asks_of groups)
  pieces_whole t e m r [] qs groups eq all count low want end =
      subst (λ (k : ℕ). IsAsked k (names_from 0 r) (asks_of groups)) (first_count [] e m refl count)
      (parities_whole 0 r m qs groups eq all low want end)
  pieces_whole t e m r (h ∷ hs) qs [] eq all count low want end =
      absurd (let z : [] ≡ (record { place = place.Piece t; had = h }) ∷ (pieces_from
      (t + 1) hs ++ parities_from 0 qs) = eq in cc)
  pieces_whole t e m r (h ∷ hs) qs (x ∷ groups) eq all count low want end =
      let i = start_of b g j + t in
      let homes = homes_of b g i in
      let (is, had_is) = group_at x (place.Piece t) h (head_is eq) (first_group x groups all) in
      let p = parts_whole homes x.asks (asks_of groups) is in
      let e' = (1 - here_in x.asks) + e in
      let rest = pieces_whole (t + 1) e' m r hs qs groups (tail_is eq) (other_groups x groups all)
      (count_step h hs e (here_in x.asks) m (group_had homes x.asks h is had_is) count) low want end in
      let at : start_of b g j + (t + 1) ≡ i + 1 = omega arith in
      let rest' = subst (λ (k : ℕ). Chunked (homes_from k (length hs)) e' (names_from 0 r)
      (asks_of groups)) at rest in (
        subst (IsAsked 1 homes) (sym p.first) is,
        subst (Chunked (homes_from (i + 1) (length hs)) ((1 - here_in (front homes (x.asks ++ asks_of groups))) + e)
            (names_from 0 r)) (sym p.others)
            (subst (λ (l : List Ask). Chunked (homes_from (i + 1) (length hs)) ((1 - here_in l) + e)
            (names_from 0 r) (asks_of groups)) (sym p.first) rest'),
      )

  pub pieces_begun : (t e m r : ℕ) (hs qs : List Bool) (groups : List Group) (tail : List Asked) (part : List Ask)
      → answers_of groups ++ tail ≡ pieces_from t hs ++ parities_from 0 qs → AllGroups groups
      → e + decode.missing hs ≡ m → length qs ≤ r → IsWanted m qs → IsTail tail part
      → Opened (homes_from (start_of b g j + t) (length hs)) e (names_from 0 r) (asks_of groups ++ part)
  pieces_begun t e m r [] qs groups tail part eq all count low want end =
      subst (λ (k : ℕ). HasBegun k (names_from 0 r) (asks_of groups ++ part)) (first_count [] e m refl count)
      (parities_begun 0 r m qs groups tail part eq all low want end)
  pieces_begun t e m r (h ∷ hs) qs [] tail part eq all count low want (inl none) =
      subst (Opened (homes_from (start_of b g j + t) (suc (length hs))) e (names_from 0 r)) (sym none)
      (opened_nil (homes_from (start_of b g j + t) (suc (length hs))) e (names_from 0 r))
  pieces_begun t e m r (h ∷ hs) qs [] tail part eq all count low want (inr (at, more, is, begun)) =
      let i = start_of b g j + t in
      let homes = homes_of b g i in
      let z : at ∷ more ≡ (record { place = place.Piece t; had = h }) ∷ (pieces_from
      (t + 1) hs ++ parities_from 0 qs) = sym is ∙ eq in
      let first : HasBegun 1 homes part = subst (λ (a : Asked). HasBegun 1 (names_at b g j a.place) part)
      (head_is z) begun in
      let p = parts_begun homes part first in (
        subst (HasBegun 1 homes) (sym p.0) first,
        subst (Opened (homes_from (i + 1) (length hs)) ((1 - here_in (front homes part)) + e) (names_from 0 r))
            (sym p.1)
            (opened_nil (homes_from (i + 1) (length hs)) ((1 - here_in (front homes part)) + e) (names_from 0 r)),
      )
  pieces_begun t e m r (h ∷ hs) qs (x ∷ groups) tail part eq all count low want end =
      let i = start_of b g j + t in
      let homes = homes_of b g i in
      let (is, had_is) = group_at x (place.Piece t) h (head_is eq) (first_group x groups all) in
      let others = asks_of groups ++ part in
      let p = parts_whole homes x.asks others is in
      let e' = (1 - here_in x.asks) + e in
      let rest = pieces_begun (t + 1) e' m r hs qs groups tail part (tail_is eq) (other_groups x groups all)
      (count_step h hs e (here_in x.asks) m (group_had homes x.asks h is had_is) count) low want end in
      let at : start_of b g j + (t + 1) ≡ i + 1 = omega arith in
      let rest' = subst (λ (k : ℕ). Opened (homes_from k (length hs)) e' (names_from 0 r) others) at rest in
      subst (Opened (homes_from i (suc (length hs))) e (names_from 0 r)) (sym (append_assoc x.asks
      (asks_of groups) part)) (
        subst (HasBegun 1 homes) (sym p.first) (asked_begun 1 homes x.asks is),
        subst (Opened (homes_from (i + 1) (length hs)) ((1 - here_in (front homes (x.asks ++ others))) + e)
            (names_from 0 r)) (sym p.others)
            (subst (λ (l : List Ask). Opened (homes_from (i + 1) (length hs)) ((1 - here_in l) + e)
            (names_from 0 r) others) (sym p.first) rest'),
      )

  -- ---- how many were Here

  abbrev here_told : List Asked → ℕ
  here_told [] = 0
  here_told (a ∷ asked) = had (a.had ∷ []) + here_told asked

  here_groups : (groups : List Group) → AllGroups groups → here_in (asks_of groups) ≡ here_told (answers_of groups)
  here_groups [] all = refl
  here_groups (x ∷ groups) all =
      let is = first_group x groups all in
      let a = group_had (names_at b g j x.asked.place) x.asks x.asked.had is.names is.had in
      let c = here_groups groups (other_groups x groups all) in
      let d = here_append x.asks (asks_of groups) in omega arith

  here_parities : (p : ℕ) (qs : List Bool) → here_told (parities_from p qs) ≡ had qs
  here_parities p [] = refl
  here_parities p (q ∷ qs) = let a = here_parities (p + 1) qs in let c = had_cons q qs in omega arith

  here_pieces : (t : ℕ) (hs qs : List Bool) → here_told (pieces_from t hs ++ parities_from 0 qs) ≡ had hs + had qs
  here_pieces t [] qs = let a = here_parities 0 qs in
      let z : here_told (parities_from 0 qs) ≡ 0 + had qs = omega arith in z
  here_pieces t (h ∷ hs) qs = let a = here_pieces (t + 1) hs qs in let c = had_cons h hs in omega arith

  all_count : (hs : List Bool) → had hs + decode.missing hs ≡ length hs
  all_count [] = refl
  all_count (true ∷ hs) = let a = had_yes hs in let c = missing_yes hs in let d = all_count hs in
      let z : length (true ∷ hs) ≡ suc (length hs) = refl in omega arith
  all_count (false ∷ hs) = let a = had_no hs in let c = missing_no hs in let d = all_count hs in
      let z : length (false ∷ hs) ≡ suc (length hs) = refl in omega arith

  pub here_all : (groups : List Group) (hs qs : List Bool)
      → answers_of groups ≡ pieces_from 0 hs ++ parities_from 0 qs → AllGroups groups
      → here_in (asks_of groups) + decode.missing hs ≡ length hs + had qs
  here_all groups hs qs eq all =
      let a = here_groups groups all in
      let c = ap here_told eq in
      let d = here_pieces 0 hs qs in
      let f = all_count hs in omega arith
