-- What asks tell: of a place, and of entries.
use Rattle.std.proofs.Common.{◌≡◌, ℕ, zero, suc, ◌+◌, ◌-◌, ◌<◌, ◌==◌, Bool, true, false, nat_lt, List, [], ◌∷◌, ◌++◌}
use Rattle.std.proofs.Common.{drop, length}
use Rattle.std.proofs.Common.{map, All, refl, sym, ap, ◌∙◌, subst, append_assoc, append-nil, arith}
use Rattle.std.specs.List.{range_with_len}
use Rattle.std.proofs.lemmas.Bool.Decides.{nat_tests}
use Rattle.std.proofs.lemmas.List.Elements.{All-head, All-tail}
use Rattle.mf_shape.specs.Stages.{copies_at, width_at}
use Rattle.mf_places.specs.declared.Name.{Name}
use Rattle.mf_places.specs.declared.Name.TheVariants as name
use Rattle.mf_places.specs.Facts.{BookFacts}
use Rattle.mf_decode.specs.declared.pieces.Asked.{Asked}
use Rattle.mf_decode.specs.declared.pieces.Place.{Place}
use Rattle.mf_decode.specs.declared.pieces.Place.TheVariants as place
use Rattle.mf_vault.specs.declared.answers.Entry.{Entry}
use Rattle.mf_vault.specs.Facts.{Facts}
use Rattle.mf_vault.specs.Actor.{Actor, Call, entry_of}
use Rattle.mf_vault.specs.Licence.{Does, entries_of}
use Rattle.mf_vault.proofs.Doing.{entries_are}
use Rattle.mf_read.specs.declared.asking.Wanting.{Wanting}
use Rattle.mf_read.specs.declared.asking.Wanting.TheVariants.{Room, Share}
use Rattle.mf_read.specs.Asking.{Found, Ask, here, lost, away, one_here, here_in, still, IsAsked, gets, get_of}
use Rattle.mf_read.specs.Groups.{Group, IsGroup, asks_of, start_of, want, names_at, told, told_by, is_last, place_of}
use Rattle.mf_read.specs.Groups.{asks_in, since, entry_ask}

-- ---- of entries

pub asks_append : (xs ys : List Entry) → asks_in (xs ++ ys) ≡ asks_in xs ++ asks_in ys
asks_append [] ys = refl
asks_append (x ∷ xs) ys = ap (λ (l : List Ask). entry_ask x ++ l) (asks_append xs ys)
    ∙ sym (append_assoc (entry_ask x) (asks_in xs) (asks_in ys))

one_told : (f : Facts) (x : Name) (r : Found) → asks_in (entry_of (get_of f (record { name = x; found = r }))) ≡
    (record { name = x; found = r }) ∷ []
one_told f x here = refl
one_told f x (lost l) = refl
one_told f x (away s) = refl

wanted_none : (w : Wanting) → asks_in (entries_of (want w)) ≡ []
wanted_none Room = refl
wanted_none (Share x) = refl

gets_told : (f : Facts) (asks : List Ask) (cs : List Call)
    → asks_in (entries_of (gets f asks ++ cs)) ≡ asks ++ asks_in (entries_of cs)
gets_told f [] cs = refl
gets_told f (x ∷ asks) cs =
    asks_append (entry_of (get_of f x)) (entries_of (gets f asks ++ cs))
    ∙ (λ i. one_told f x.name x.found i ++ gets_told f asks cs i)

drop_front : {A : Type 0} (xs ys : List A) → drop (length xs) (xs ++ ys) ≡ ys
drop_front [] ys = refl
drop_front (x ∷ xs) ys = drop_front xs ys

since_does : (f : Facts) (asks : List Ask) (cs : List Call) {a b : Actor} → Does (gets f asks ++ cs) a b
    → since a b ≡ asks ++ asks_in (entries_of cs)
since_does f asks cs {a = a} does =
    ap (λ (l : List Entry). asks_in (drop (length a.entries) l)) (entries_are does)
    ∙ ap asks_in (drop_front a.entries (entries_of (gets f asks ++ cs)))
    ∙ gets_told f asks cs

pub since_gets : (f : Facts) (asks : List Ask) {a b : Actor} → Does (gets f asks) a b → since a b ≡ asks
since_gets f asks {a = a} {b = b} does =
    since_does f asks [] (subst (λ (l : List Call). Does l a b) (sym (append-nil (gets f asks))) does) ∙ append-nil asks

pub since_wanting : (f : Facts) (asks : List Ask) (w : Wanting) {a b : Actor} → Does (gets f asks ++ want w) a b
    → since a b ≡ asks
since_wanting f asks w does = since_does f asks (want w) does ∙ ap (λ (l : List Ask). asks ++ l) (wanted_none w)
    ∙ append-nil asks

-- groups tell their answers
abbrev pub answers_of : List Group → List Asked
answers_of [] = []
answers_of (x ∷ groups) = x.asked ∷ answers_of groups

-- ---- of a place

module _ (b : BookFacts) (g j : ℕ) where
  pub told_append : (xs ys : List Ask) → told b g j (xs ++ ys) ≡ told b g j xs ++ told b g j ys
  told_append [] ys = refl
  told_append (x ∷ xs) ys =
      let t = told_by (place_of b g j x.name) (is_last b g x.name) x.found in
      ap (λ (l : List Asked). t ++ l) (told_append xs ys) ∙ sym (append_assoc t (told b g j xs) (told b g j ys))

  -- the names of one place: the last of them tells so
  abbrev is_nil : List Name → Bool
  is_nil [] = true
  is_nil (x ∷ xs) = false

  abbrev Ends : Place → List Name → Type 0
  Ends p [] = Unit {0}
  Ends p (x ∷ xs) = (place_of b g j x ≡ p) × (is_last b g x ≡ is_nil xs) × Ends p xs

  -- one name of the place, and what was asked after it
  told_one : (p : Place) (xs : List Name) (r : Found) (asks : List Ask)
      → ((y : Name) (ys : List Name) → xs ≡ y ∷ ys → IsAsked 1 xs asks
      → told b g j asks ≡ (record { place = p; had = nat_lt 0 (here_in asks) }) ∷ [])
      → IsAsked (still r 0) xs asks
      → told_by p (is_nil xs) r ++ told b g j asks ≡ (record {
        place = p;
        had = nat_lt 0
            (one_here r + here_in asks);
      }) ∷ []
  told_one p xs here asks ih is =
      subst (λ (l : List Ask). told_by p (is_nil xs) here ++ told b g j l ≡ (record {
        place = p;
        had = nat_lt 0
            (1 + here_in l);
      }) ∷ []) (sym is) refl
  told_one p [] (lost l) asks ih is =
      subst (λ (l : List Ask). told_by p true (lost 0) ++ told b g j l ≡ (record {
        place = p;
        had = nat_lt 0
            (0 + here_in l);
      }) ∷ []) (sym is) refl
  told_one p [] (away s) asks ih is =
      subst (λ (l : List Ask). told_by p true (away 0) ++ told b g j l ≡ (record {
        place = p;
        had = nat_lt 0
            (0 + here_in l);
      }) ∷ []) (sym is) refl
  told_one p (y ∷ ys) (lost l) asks ih is = ih y ys refl is
      ∙ ap (λ (n : ℕ). (record { place = p; had = nat_lt 0 n }) ∷ [])
      (let e : here_in asks ≡ 0 + here_in asks = omega arith in e)
  told_one p (y ∷ ys) (away s) asks ih is = ih y ys refl is
      ∙ ap (λ (n : ℕ). (record { place = p; had = nat_lt 0 n }) ∷ [])
      (let e : here_in asks ≡ 0 + here_in asks = omega arith in e)

  told_named : (p : Place) (n x : Name) (xs : List Name) (r : Found) (rest out : List Asked) → n ≡ x
      → place_of b g j x ≡ p → is_last b g x ≡ is_nil xs
      → told_by p (is_nil xs) r ++ rest ≡ out → told_by (place_of b g j n) (is_last b g n) r ++ rest ≡ out
  told_named p n x xs r rest out e at last is =
      (λ i. told_by ((ap (place_of b g j) e ∙ at) i) ((ap (is_last b g) e ∙ last) i) r ++ rest) ∙ is

  told_names : (p : Place) (x : Name) (xs : List Name) (asks : List Ask) → Ends p (x ∷ xs) → IsAsked 1 (x ∷ xs) asks
      → told b g j asks ≡ (record { place = p; had = nat_lt 0 (here_in asks) }) ∷ []
  told_names p x xs [] ends is = absurd is
  told_names p x [] (a ∷ asks) (at, last, ends) (e, is) =
      told_named p a.name x [] a.found (told b g j asks) _ e at last (told_one p [] a.found asks (λ y ys e. absurd
      (let z : [] ≡ y ∷ ys = e in cc)) is)
  told_names p x (y ∷ ys) (a ∷ asks) (at, last, ends) (e, is) =
      told_named p a.name x (y ∷ ys) a.found (told b g j asks) _ e at last (told_one p (y ∷ ys) a.found asks
      (λ z zs e more. told_names p y ys asks ends more) is)

  -- asks that go on tell nothing yet
  goes_on : (asks : List Ask) (next : Ask) (rest : List Ask) → asks ++ next ∷ rest ≡ [] → ⊥
  goes_on [] next rest e = let z : next ∷ rest ≡ [] = e in cc
  goes_on (a ∷ asks) next rest e = let z : a ∷ (asks ++ next ∷ rest) ≡ [] = e in cc

  front_one : (p : Place) (xs : List Name) (r : Found) (asks : List Ask) (next : Ask) (rest : List Ask)
      → ((y : Name) (ys : List Name) → xs ≡ y ∷ ys → IsAsked 1 xs (asks ++ next ∷ rest) → told b g j asks ≡ [])
      → IsAsked (still r 0) xs (asks ++ next ∷ rest) → told_by p (is_nil xs) r ++ told b g j asks ≡ []
  front_one p xs here asks next rest ih is = absurd (goes_on asks next rest is)
  front_one p [] (lost l) asks next rest ih is = absurd (goes_on asks next rest is)
  front_one p [] (away s) asks next rest ih is = absurd (goes_on asks next rest is)
  front_one p (y ∷ ys) (lost l) asks next rest ih is = ih y ys refl is
  front_one p (y ∷ ys) (away s) asks next rest ih is = ih y ys refl is

  front_names : (p : Place) (x : Name) (xs : List Name) (asks : List Ask) (next : Ask) (rest : List Ask)
      → Ends p (x ∷ xs)
      → IsAsked 1 (x ∷ xs) (asks ++ next ∷ rest) → told b g j asks ≡ []
  front_names p x xs [] next rest ends is = refl
  front_names p x [] (a ∷ asks) next rest (at, last, ends) (e, is) =
      told_named p a.name x [] a.found (told b g j asks) [] e at last (front_one p [] a.found asks next rest
      (λ y ys e. absurd (let z : [] ≡ y ∷ ys = e in cc)) is)
  front_names p x (y ∷ ys) (a ∷ asks) next rest (at, last, ends) (e, is) =
      told_named p a.name x (y ∷ ys) a.found (told b g j asks) [] e at last
      (front_one p (y ∷ ys) a.found asks next rest (λ z zs e more. front_names p y ys asks next rest ends more) is)

  -- the names of a place end so
  abbrev copies : ℕ
  copies = copies_at b.shape.stages g

  last_data : (n i : ℕ) → (n == 0) ≡ is_nil (map (λ k. name.Copy k i) (range_with_len 0 n))
  last_data zero i = refl
  last_data (suc n) i = grind (arith, nat_tests)

  last_copy : (c m i : ℕ) → c + suc m ≡ copies → (c + 1 == copies) ≡ is_nil (map (λ k. name.Copy k i)
      (range_with_len (c + 1) m))
  last_copy c zero i e = let z : c + 1 ≡ copies = omega arith in grind (arith, nat_tests)
  last_copy c (suc m) i e = let z : c + 1 < copies = omega arith in grind (arith, nat_tests)

  ends_copies : (t c n : ℕ) → c + n ≡ copies → Ends (place.Piece t) (map (λ k. name.Copy k (start_of b g j + t))
      (range_with_len c n))
  ends_copies t c zero e = tt
  ends_copies t c (suc n) e = (
    ap place.Piece (let z : start_of b g j + t - start_of b g j ≡ t = omega arith in z),
    last_copy c n (start_of b g j + t) e,
    ends_copies t (c + 1) n (omega arith),
  )

  pub told_place : (p : Place) (asks : List Ask) → IsAsked 1 (names_at b g j p) asks
      → told b g j asks ≡ (record { place = p; had = nat_lt 0 (here_in asks) }) ∷ []
  told_place (place.Piece t) asks is =
      let at : start_of b g j + t - start_of b g j ≡ t = omega arith in
      told_names (place.Piece t) (name.Data (start_of b g j + t)) (map (λ k. name.Copy k (start_of b g j + t))
      (range_with_len 0 copies)) asks
      (ap place.Piece at, last_data copies (start_of b g j + t), ends_copies t 0 copies (omega arith)) is
  told_place (place.Parity p) asks is =
      told_names (place.Parity p) (name.Parity (width_at b.shape.stages g) j p) [] asks (refl, refl, tt) is

  pub told_front : (p : Place) (asks : List Ask) (next : Ask) (rest : List Ask)
      → IsAsked 1 (names_at b g j p) (asks ++ next ∷ rest) → told b g j asks ≡ []
  told_front (place.Piece t) asks next rest is =
      let at : start_of b g j + t - start_of b g j ≡ t = omega arith in
      front_names (place.Piece t) (name.Data (start_of b g j + t)) (map (λ k. name.Copy k (start_of b g j + t))
      (range_with_len 0 copies)) asks next rest
      (ap place.Piece at, last_data copies (start_of b g j + t), ends_copies t 0 copies (omega arith)) is
  told_front (place.Parity p) asks next rest is =
      front_names (place.Parity p) (name.Parity (width_at b.shape.stages g) j p) [] asks next rest (refl, refl, tt) is

  pub told_groups : (groups : List Group) → All (IsGroup b g j) groups → told b g j (asks_of groups) ≡ answers_of groups
  told_groups [] all = refl
  told_groups (x ∷ groups) all =
      let is = All-head (IsGroup b g j) x groups all in
      told_append x.asks (asks_of groups)
      ∙ (λ i. (told_place x.asked.place x.asks is.names
      ∙ ap (λ (h : Bool). (record { place = x.asked.place; had = h }) ∷ []) (sym is.had)) i
      ++ told_groups groups (All-tail (IsGroup b g j) x groups all) i)
