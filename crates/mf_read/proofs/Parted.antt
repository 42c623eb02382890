-- An asking, taken apart from its front on: what belongs to the first chunk, and what stands behind it.
use Rattle.std.proofs.Common.{◌≡◌, ℕ, zero, suc, ◌+◌, ◌-◌, ◌⊎◌, List, [], ◌∷◌, ◌++◌, map, refl, sym, ap, ◌∙◌, subst}
use Rattle.std.proofs.Common.{append_assoc, append-nil, inl, inr, arith}
use mathlib.Core.HLevel.{×_prop, Unit-prop}
use Rattle.std.specs.Coded.{coded_ℕ, Coded-set}
use mathlib.Core.List.{is_set}
use mathlib.Core.Sum.{⊎_set}
use Rattle.mf_places.specs.declared.Name.{Name}
use Rattle.mf_places.specs.Facts.{BookFacts}
use Rattle.mf_read.specs.Asking.{Found, Ask, here, lost, away, here_in, still, IsAsked, homes_of, AreAsked, missing}
use Rattle.mf_read.specs.Asking.{joined}
use Rattle.mf_read.proofs.Turns.{fill}

-- what was asked of these names, and what stands behind
abbrev pub front_by : Found → List Ask → List Ask
front_by here asks = []
front_by (lost l) asks = asks
front_by (away s) asks = asks

abbrev pub front : List Name → List Ask → List Ask
front [] asks = []
front (x ∷ names) [] = []
front (x ∷ names) (a ∷ asks) = a ∷ front_by a.found (front names asks)

abbrev pub behind_by : Found → List Ask → List Ask → List Ask
behind_by here all asks = all
behind_by (lost l) all asks = asks
behind_by (away s) all asks = asks

abbrev pub behind : List Name → List Ask → List Ask
behind [] asks = asks
behind (x ∷ names) [] = []
behind (x ∷ names) (a ∷ asks) = behind_by a.found asks (behind names asks)

-- both are all
parts_one : (names : List Name) (n : Name) (r : Found) (asks : List Ask) → asks ≡ front names asks ++ behind names asks
    → (record { name = n; found = r }) ∷ asks ≡ ((record { name = n; found = r }) ∷ front_by r
    (front names asks)) ++ behind_by r asks (behind names asks)
parts_one names n here asks e = refl
parts_one names n (lost l) asks e = ap (λ (k : List Ask). (record { name = n; found = lost l }) ∷ k) e
parts_one names n (away s) asks e = ap (λ (k : List Ask). (record { name = n; found = away s }) ∷ k) e

pub parts : (names : List Name) (asks : List Ask) → asks ≡ front names asks ++ behind names asks
parts [] asks = refl
parts (x ∷ names) [] = refl
parts (x ∷ names) (a ∷ asks) = parts_one names a.name a.found asks (parts names asks)

-- a whole front is found
pub record Parts (names : List Name) (now rest : List Ask) : Type 0 where
  pub first : front names (now ++ rest) ≡ now
  pub others : behind names (now ++ rest) ≡ rest

parts_by : (names : List Name) (n : Name) (r : Found) (now rest : List Ask) → IsAsked (still r 0) names now
    → (IsAsked 1 names now → Parts names now rest)
    → (((record { name = n; found = r }) ∷ front_by r (front names (now ++ rest)) ≡
    (record { name = n; found = r }) ∷ now)
    × (behind_by r (now ++ rest) (behind names (now ++ rest)) ≡ rest))
parts_by names n here now rest is ih = (
  ap (λ (l : List Ask). (record { name = n; found = here }) ∷ l) (sym is),
  subst (λ (l : List Ask). l ++ rest ≡ rest) (sym is) refl,
)
parts_by names n (lost l) now rest is ih = (
  ap (λ (k : List Ask). (record { name = n; found = lost l }) ∷ k)
      (ih is).first,
  (ih is).others,
)
parts_by names n (away s) now rest is ih = (
  ap (λ (k : List Ask). (record { name = n; found = away s }) ∷ k)
      (ih is).first,
  (ih is).others,
)

pub parts_whole : (names : List Name) (now rest : List Ask) → IsAsked 1 names now → Parts names now rest
parts_whole [] now rest is = record {
  first = sym is;
  others = subst (λ (l : List Ask). l ++ rest ≡ rest)
      (sym is) refl;
}
parts_whole (x ∷ names) [] rest is = absurd is
parts_whole (x ∷ names) (a ∷ now) rest (e, is) =
    let r = parts_by names a.name a.found now rest is (λ more. parts_whole names now rest more) in
    record { first = r.0; others = r.1 }

-- ---- a whole asking, from its front on; so many chunks before were Here nowhere

abbrev pub Chunked : (homes : List (List Name)) (e : ℕ) (parities : List Name) → List Ask → Type 0
Chunked [] e parities asks = IsAsked e parities asks
Chunked (names ∷ homes) e parities asks =
    IsAsked 1 names (front names asks) × Chunked homes ((1 - here_in (front names asks)) + e) parities
    (behind names asks)

ℕ_set : IsSet ℕ
ℕ_set = Coded-set coded_ℕ

Name_set : IsSet Name
Name_set = hlevel (ℕ_set, ⊎_set)

Asks_set : IsSet (List Ask)
Asks_set = is_set (hlevel (ℕ_set, ⊎_set))

pub asked_prop : (n : ℕ) (names : List Name) (asks : List Ask) → IsProp (IsAsked n names asks)
asked_prop zero names asks = Asks_set asks []
asked_prop (suc n) [] asks = Asks_set asks []
asked_prop (suc n) (x ∷ names) [] = hlevel
asked_prop (suc n) (x ∷ names) (a ∷ asks) = ×_prop (Name_set a.name x) (asked_prop (still a.found n) names asks)

pub chunked_prop : (homes : List (List Name)) (e : ℕ) (parities : List Name) (asks : List Ask)
    → IsProp (Chunked homes e parities asks)
chunked_prop [] e parities asks = asked_prop e parities asks
chunked_prop (names ∷ homes) e parities asks =
    ×_prop (asked_prop 1 names (front names asks)) (chunked_prop homes ((1 - here_in
    (front names asks)) + e) parities (behind names asks))

-- it has its pieces and its parities
pub record Pieced (b : BookFacts) (g : ℕ) (chunks : List ℕ) (e : ℕ) (names : List Name) (asks : List Ask) : Type 0 where
  pub pieces : List (List Ask)
  pub parities : List Ask
  pub order : asks ≡ joined pieces ++ parities
  pub each : AreAsked b g chunks pieces
  pub after : IsAsked (missing pieces + e) names parities

pub pieced : (b : BookFacts) (g : ℕ) (chunks : List ℕ) (e : ℕ) (names : List Name) (asks : List Ask)
    → Chunked (map (homes_of b g) chunks) e names asks
    → Pieced b g chunks e names asks
pieced b g [] e names asks is = record {
  pieces = [];
  parities = asks;
  order = refl;
  each = refl;
  after = subst (λ (n : ℕ). IsAsked n names asks) (let z : e ≡ 0 + e = omega arith in z) is;
}
pieced b g (i ∷ chunks) e names asks (is, rest) =
    let now = front (homes_of b g i) asks in
    let p = pieced b g chunks ((1 - here_in now) + e) names (behind (homes_of b g i) asks) rest in record {
      pieces = now ∷ p.pieces;
      parities = p.parities;
      order = parts (homes_of b g i) asks ∙ ap (λ (l : List Ask). now ++ l) p.order
          ∙ sym (append_assoc now (joined p.pieces) p.parities);
      each = (is, p.each);
      after = subst (λ (n : ℕ). IsAsked n names p.parities)
          (let z : missing p.pieces + ((1 - here_in now) + e) ≡
          (1 - here_in now) + missing p.pieces + e = omega arith in z) p.after;
    }

-- ---- the front of an asking, as far as it came

abbrev pub HasBegun : (wanted : ℕ) (names : List Name) → List Ask → Type 0
HasBegun zero names asks = asks ≡ []
HasBegun (suc n) [] asks = asks ≡ []
HasBegun (suc n) (x ∷ names) [] = Unit {0}
HasBegun (suc n) (x ∷ names) (a ∷ asks) = (a.name ≡ x) × HasBegun (still a.found n) names asks

abbrev pub Opened : (homes : List (List Name)) (e : ℕ) (parities : List Name) → List Ask → Type 0
Opened [] e parities asks = HasBegun e parities asks
Opened (names ∷ homes) e parities asks =
    HasBegun 1 names (front names asks) × Opened homes ((1 - here_in (front names asks)) + e) parities
    (behind names asks)

pub begun_prop : (n : ℕ) (names : List Name) (asks : List Ask) → IsProp (HasBegun n names asks)
begun_prop zero names asks = Asks_set asks []
begun_prop (suc n) [] asks = Asks_set asks []
begun_prop (suc n) (x ∷ names) [] = Unit-prop
begun_prop (suc n) (x ∷ names) (a ∷ asks) = ×_prop (Name_set a.name x) (begun_prop (still a.found n) names asks)

pub opened_prop : (homes : List (List Name)) (e : ℕ) (parities : List Name) (asks : List Ask)
    → IsProp (Opened homes e parities asks)
opened_prop [] e parities asks = begun_prop e parities asks
opened_prop (names ∷ homes) e parities asks =
    ×_prop (begun_prop 1 names (front names asks)) (opened_prop homes ((1 - here_in
    (front names asks)) + e) parities (behind names asks))

-- a whole one has begun, and so has a front of it
pub asked_begun : (n : ℕ) (names : List Name) (asks : List Ask) → IsAsked n names asks → HasBegun n names asks
asked_begun zero names asks is = is
asked_begun (suc n) [] asks is = is
asked_begun (suc n) (x ∷ names) [] is = absurd is
asked_begun (suc n) (x ∷ names) (a ∷ asks) (e, is) = (e, asked_begun (still a.found n) names asks is)

nil_front : (xs ys : List Ask) → xs ++ ys ≡ [] → xs ≡ []
nil_front [] ys e = refl
nil_front (x ∷ xs) ys e = absurd (let z : x ∷ (xs ++ ys) ≡ [] = e in cc)

pub begun_front : (n : ℕ) (names : List Name) (xs ys : List Ask) → HasBegun n names (xs ++ ys) → HasBegun n names xs
begun_front zero names xs ys is = nil_front xs ys is
begun_front (suc n) [] xs ys is = nil_front xs ys is
begun_front (suc n) (x ∷ names) [] ys is = tt
begun_front (suc n) (x ∷ names) (a ∷ xs) ys (e, is) = (e, begun_front (still a.found n) names xs ys is)

-- what has begun is all of the front
begun_by : (names : List Name) (n : Name) (r : Found) (asks : List Ask) → HasBegun (still r 0) names asks
    → (HasBegun 1 names asks → Parts names asks [])
    → (((record { name = n; found = r }) ∷ front_by r (front names asks) ≡ (record { name = n; found = r }) ∷ asks)
    × (behind_by r asks (behind names asks) ≡ []))
begun_by names n here asks is ih = (ap (λ (l : List Ask). (record { name = n; found = here }) ∷ l) (sym is), is)
begun_by names n (lost l) asks is ih =
    let p = ih is in let e = append-nil asks in (
      ap (λ (k : List Ask). (record { name = n; found = lost l }) ∷ k) (ap (front names) (sym e)
          ∙ p.first),
      ap (behind names) (sym e) ∙ p.others,
    )
begun_by names n (away s) asks is ih =
    let p = ih is in let e = append-nil asks in (
      ap (λ (k : List Ask). (record { name = n; found = away s }) ∷ k) (ap (front names) (sym e)
          ∙ p.first),
      ap (behind names) (sym e) ∙ p.others,
    )

pub parts_begun : (names : List Name) (asks : List Ask) → HasBegun 1 names asks
    → (front names asks ≡ asks) × (behind names asks ≡ [])
parts_begun [] asks is = (sym is, is)
parts_begun (x ∷ names) [] is = (refl, refl)
parts_begun (x ∷ names) (a ∷ asks) (e, is) =
    begun_by names a.name a.found asks is (λ more. let r = parts_begun names asks more in let e = append-nil asks in
    record { first = ap (front names) e ∙ r.0; others = ap (behind names) e ∙ r.1 })

-- nothing was asked yet
pub begun_nil : (n : ℕ) (names : List Name) → HasBegun n names []
begun_nil zero names = refl
begun_nil (suc n) [] = refl
begun_nil (suc n) (x ∷ names) = tt

front_nil : (names : List Name) → front names [] ≡ []
front_nil [] = refl
front_nil (x ∷ names) = refl

behind_nil : (names : List Name) → behind names [] ≡ []
behind_nil [] = refl
behind_nil (x ∷ names) = refl

pub opened_nil : (homes : List (List Name)) (e : ℕ) (parities : List Name) → Opened homes e parities []
opened_nil [] e parities = begun_nil e parities
opened_nil (names ∷ homes) e parities = (
  subst (HasBegun 1 names) (sym (front_nil names)) (begun_nil 1 names),
  subst (Opened homes ((1 - here_in (front names [])) + e) parities) (sym (behind_nil names)) (opened_nil homes
      ((1 - here_in (front names [])) + e) parities),
)

-- what has begun may end
fill_lost : (n : ℕ) (names : List Name) → here_in (fill n names).0 ≡ 0
unfolding fill
fill_lost zero names = refl
fill_lost (suc n) [] = refl
fill_lost (suc n) (x ∷ names) = let e = fill_lost (suc n) names in omega arith

pub ends_so : (n : ℕ) (names : List Name) (asks : List Ask) → HasBegun n names asks
    → (rest : List Ask) × IsAsked n names (asks ++ rest)
ends_so zero names asks is = ([], subst (λ (l : List Ask). l ++ [] ≡ []) (sym is) refl)
ends_so (suc n) [] asks is = ([], subst (λ (l : List Ask). l ++ [] ≡ []) (sym is) refl)
ends_so (suc n) (x ∷ names) [] is = fill (suc n) (x ∷ names)
ends_so (suc n) (x ∷ names) (a ∷ asks) (e, is) = let (rest, all) = ends_so (still a.found n) names asks is in
    (rest, (e, all))

-- the front of the first chunk: it is whole, or nothing stands behind it
pub record Ending (names : List Name) (asks : List Ask) : Type 0 where
  pub rest : List Ask
  pub whole : IsAsked 1 names (front names asks ++ rest)
  pub none : here_in rest ≡ 0
  pub last : (rest ≡ []) ⊎ (behind names asks ≡ [])

ending_by : (names : List Name) (n x : Name) (r : Found) (asks : List Ask) → n ≡ x
    → HasBegun (still r 0) names (front_by r (front names asks))
    → (HasBegun 1 names (front names asks) → Ending names asks)
    → (rest : List Ask) × IsAsked 1 (x ∷ names) (((record { name = n; found = r }) ∷ front_by r
    (front names asks)) ++ rest) × (here_in rest ≡ 0)
    × ((rest ≡ []) ⊎ (behind_by r asks (behind names asks) ≡ []))
ending_by names n x here asks e is ih = ([], (e, refl), refl, inl refl)
ending_by names n x (lost l) asks e is ih = let p = ih is in (p.rest, (e, p.whole), p.none, p.last)
ending_by names n x (away s) asks e is ih = let p = ih is in (p.rest, (e, p.whole), p.none, p.last)

pub ending : (names : List Name) (asks : List Ask) → HasBegun 1 names (front names asks) → Ending names asks
ending [] asks is = record { rest = []; whole = refl; none = refl; last = inl refl }
ending (x ∷ names) [] is = record {
  rest = (fill 1 (x ∷ names)).0;
  whole = (fill 1
      (x ∷ names)).1;
  none = fill_lost 1 (x ∷ names);
  last = inr refl;
}
ending (x ∷ names) (a ∷ asks) (e, is) =
    let r = ending_by names a.name x a.found asks e is (λ more. ending names asks more) in
    record { rest = r.0; whole = r.1; none = r.2; last = r.3 }

-- an asking that begins so
pub record Begins (b : BookFacts) (g : ℕ) (chunks : List ℕ) (e : ℕ) (names : List Name) (asks : List Ask) : Type 0 where
  pub rest : List Ask
  pub all : Pieced b g chunks e names (asks ++ rest)

here_more : (xs ys : List Ask) → here_in ys ≡ 0 → here_in (xs ++ ys) ≡ here_in xs
here_more [] ys e = e
here_more (x ∷ xs) ys e = let z = here_more xs ys e in omega arith

order_of : (xs ys zs rest : List Ask) → (xs ≡ []) ⊎ (ys ≡ []) → (zs ++ ys) ++ (xs ++ rest) ≡ (zs ++ xs) ++ (ys ++ rest)
order_of xs ys zs rest (inl e) =
    subst (λ (l : List Ask). (zs ++ ys) ++ (l ++ rest) ≡ (zs ++ l) ++ (ys ++ rest)) (sym e)
    (append_assoc zs ys rest ∙ ap (λ (l : List Ask). l ++ (ys ++ rest)) (sym (append-nil zs)))
order_of xs ys zs rest (inr e) =
    subst (λ (l : List Ask). (zs ++ l) ++ (xs ++ rest) ≡ (zs ++ xs) ++ (l ++ rest)) (sym e)
    (ap (λ (l : List Ask). l ++ (xs ++ rest)) (append-nil zs) ∙ sym (append_assoc zs xs rest))

pub begins : (b : BookFacts) (g : ℕ) (chunks : List ℕ) (e : ℕ) (names : List Name) (asks : List Ask)
    → Opened (map (homes_of b g) chunks) e names asks
    → Begins b g chunks e names asks
begins b g [] e names asks is =
    let (rest, all) = ends_so e names asks is in record {
      rest = rest;
      all = record {
        pieces = [];
        parities = asks ++ rest;
        order = refl;
        each = refl;
        after = subst (λ (n : ℕ). IsAsked n names (asks ++ rest)) (let z : e ≡ 0 + e = omega arith in z) all;
      };
    }
begins b g (i ∷ chunks) e names asks (is, others) =
    let homes = homes_of b g i in
    let now = front homes asks in
    let later = behind homes asks in
    let p = ending homes asks is in
    let q = begins b g chunks ((1 - here_in now) + e) names later others in
    let n = here_more now p.rest p.none in record {
      rest = p.rest ++ q.rest;
      all = record {
        pieces = (now ++ p.rest) ∷ q.all.pieces;
        parities = q.all.parities;
        order = ap (λ (l : List Ask). l ++ (p.rest ++ q.rest)) (parts homes asks)
            ∙ order_of p.rest later now q.rest p.last
            ∙ ap (λ (l : List Ask). (now ++ p.rest) ++ l) q.all.order
            ∙ sym (append_assoc (now ++ p.rest) (joined q.all.pieces) q.all.parities);
        each = (p.whole, q.all.each);
        after = subst (λ (k : ℕ). IsAsked k names q.all.parities)
            (let z : missing q.all.pieces + ((1 - here_in now) + e) ≡ (1 - here_in
            (now ++ p.rest)) + missing q.all.pieces + e = omega arith in z) q.all.after;
      };
    }
