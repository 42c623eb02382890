-- Gets for one name, and for the names of a chunk.
use Rattle.std.proofs.Common.{◌≡◌, ℕ, suc, ◌+◌, ◌-◌, ◌<◌, ◌≤◌, true, false, nat_lt, List, [], ◌∷◌, ◌++◌, Option, Some}
use Rattle.std.proofs.Common.{None, Result, Ok, Err}
use Rattle.std.proofs.Common.{map, refl, sym, ap, ◌∙◌, subst, append_assoc, append-nil, arith}
use Rattle.std.specs.List.{range_with_len}
use Rattle.std.proofs.lemmas.Bool.Decides.{nat_tests}
use Rattle.mf_places.specs.declared.Name.{Name}
use Rattle.mf_places.specs.declared.Name.TheVariants as name
use Rattle.mf_vault.specs.declared.answers.Got.{Got}
use Rattle.mf_vault.specs.declared.answers.Got.TheVariants as got
use Rattle.mf_vault.specs.Facts.{Facts, cell_of}
use Rattle.mf_vault.specs.Actor.{Actor, Call, get}
use Rattle.mf_vault.specs.Answers.{Goes}
use Rattle.mf_vault.specs.Licence.{Does}
use Rattle.mf_vault.proofs.Doing.{nothing, same, one, then, facts_stay}
use Rattle.mf_read.specs.declared.asking.Wanting.{Wanting}
use Rattle.mf_read.specs.declared.asking.Wanting.TheVariants.{Room}
use Rattle.mf_read.specs.Asking.{Ask, here, lost, away, here_in, IsAsked, gets, get_of}
use Rattle.mf_read.specs.Groups.{Asks, want, had_of, is_missed}
use Rattle.mf_read.proofs.Turns.{extend, in_turn}

-- gets in turn
pub gets_append : (f : Facts) (xs ys : List Ask) → gets f (xs ++ ys) ≡ gets f xs ++ gets f ys
gets_append f [] ys = refl
gets_append f (x ∷ xs) ys = ap (λ (l : List Call). get_of f x ∷ l) (gets_append f xs ys)

-- no room
pub no_room : {a b : Actor} (x : Name) (cell : List ℕ) → b ≡ a → Asks (x ∷ []) cell (Err Room) a b
no_room x cell e = ([], record { name = x; found = here }, [], (refl, refl), tt, same e)

-- by the answer of a get
pub asked_by : {a b c : Actor} (x : Name) (r : Got) → b ≡ a → Goes (get x r) b c
    → Asks (x ∷ []) (cell_of a.facts x) (had_of x r) a c
asked_by {a = a} {c = c} x r e g = by_answer r (subst (λ (z : Actor). Goes (get x r) z c) e g)
  where
    by_answer : (r : Got) → Goes (get x r) a c → Asks (x ∷ []) (cell_of a.facts x) (had_of x r) a c
    by_answer (got.Here bytes) g = (
      (record { name = x; found = here }) ∷ [],
      (refl, refl),
      refl,
      g.fair.1,
      one (subst (λ (l : List ℕ). Goes (get x (got.Here l)) a c) g.fair.1 g),
    )
    by_answer (got.Lost l) g = ((record { name = x; found = lost l }) ∷ [], (refl, refl), refl, tt, one g)
    by_answer (got.Away s) g = ((record { name = x; found = away s }) ∷ [], (refl, refl), refl, tt, one g)
    by_answer got.Memory g = ([], record { name = x; found = here }, [], (refl, refl), (refl, refl), one g)

-- the copies of chunk i from c on
abbrev pub copies_from : (copies i c : ℕ) → List Name
copies_from copies i c = map (λ k. name.Copy k i) (range_with_len c (copies - c))

pub copies_more : (copies i c : ℕ) → c < copies → copies_from copies i c ≡ name.Copy c i ∷ copies_from copies i (c + 1)
copies_more copies i c low =
    let n : ℕ = copies - (c + 1) in
    let e : copies - c ≡ suc n = omega arith in
    ap (λ (k : ℕ). map (λ k. name.Copy k i) (range_with_len c k)) e

pub copies_none : (copies i c : ℕ) → copies ≤ c → copies_from copies i c ≡ []
copies_none copies i c high = let e : copies - c ≡ 0 = omega arith in
    ap (λ (k : ℕ). map (λ k. name.Copy k i) (range_with_len c k)) e

-- calls in turn
pub does_more : (asks asks' : List Ask) (cs : List Call) {a b d : Actor} → Does (gets a.facts asks) a b
    → Does (gets b.facts asks' ++ cs) b d
    → Does (gets a.facts (asks ++ asks') ++ cs) a d
does_more asks asks' cs {a = a} {b = b} {d = d} x y =
    let y' = subst (λ (f : Facts). Does (gets f asks' ++ cs) b d) (facts_stay x) y in
    subst (λ (l : List Call). Does l a d)
    (sym (append_assoc (gets a.facts asks) (gets a.facts asks') cs)
    ∙ ap (λ (l : List Call). l ++ cs) (sym (gets_append a.facts asks asks')))
    (then x y')

pub does_on : (asks asks' : List Ask) {a b d : Actor} → Does (gets a.facts asks) a b
    → Does (gets b.facts asks') b d → Does (gets a.facts (asks ++ asks')) a d
does_on asks asks' {a = a} {b = b} {d = d} x y =
    subst (λ (l : List Call). Does l a d) (append-nil (gets a.facts (asks ++ asks')))
    (does_more asks asks' [] x (subst (λ (l : List Call). Does l b d) (sym (append-nil (gets b.facts asks'))) y))

pub here_append : (xs ys : List Ask) → here_in (xs ++ ys) ≡ here_in xs + here_in ys
here_append [] ys = let e : here_in ys ≡ 0 + here_in ys = omega arith in e
here_append (x ∷ xs) ys = let e = here_append xs ys in omega arith

none_had : (asks : List Ask) → false ≡ nat_lt 0 (here_in asks) → here_in asks ≡ 0
none_had asks e = grind (arith, nat_tests)

-- names were asked for, none of which was Here, and these are left
pub record Trying (names left : List Name) (a b : Actor) : Type 0 where
  pub asks : List Ask
  pub does : Does (gets a.facts asks) a b
  pub more : (others : List Ask) → IsAsked 1 left others → IsAsked 1 names (asks ++ others)
  pub none : here_in asks ≡ 0

pub try_first : (names : List Name) (a : Actor) → Trying names names a a
try_first names a = record { asks = []; does = nothing a; more = λ others is. is; none = refl }

more_in : (names : List Name) (asks asks' others : List Ask) (left : List Name)
    → ((others : List Ask) → IsAsked 1 left others → IsAsked 1 names (asks ++ others))
    → IsAsked 1 left (asks' ++ others)
    → IsAsked 1 names ((asks ++ asks') ++ others)
more_in names asks asks' others left more is = subst (IsAsked 1 names) (sym (append_assoc asks asks' others)) (more
    (asks' ++ others) is)

-- the next one was not Here
pub try_next : (names left : List Name) (x : Name) (cell : List ℕ) (r : Result (Option
    (List ℕ)) Wanting) {a b d : Actor} → Trying names (x ∷ left) a b
    → Asks (x ∷ []) cell r b d → is_missed r ≡ true → Trying names left a d
try_next names left x cell (Err w) t asked e = absurd (let z : false ≡ true = e in cc)
try_next names left x cell (Ok (Some c)) t asked e = absurd (let z : false ≡ true = e in cc)
try_next names left x cell (Ok None) t (asks, is, had, cell_is, does) e = record {
  asks = t.asks ++ asks;
  does = does_on t.asks asks t.does does;
  more = λ others after. more_in names t.asks asks others (x ∷ left) t.more
      (in_turn x left asks others None is had after);
  none = let n = none_had asks had in let m = t.none in let e = here_append t.asks asks in omega arith;
}

-- it was Here, or memory was wanting
pub try_ends : (names left : List Name) (x : Name) (cell : List ℕ) (r : Result (Option
    (List ℕ)) Wanting) {a b : Actor} (d : Actor) → Trying names (x ∷ left) a b
    → Asks (x ∷ []) cell r b d → is_missed r ≡ false → Asks names cell r a d
try_ends names left x cell (Ok None) d t asked e = absurd (let z : true ≡ false = e in cc)
try_ends names left x cell (Ok (Some c)) d t (asks, is, had, cell_is, does) e = (
  t.asks ++ asks,
  subst (IsAsked 1 names) (append-nil (t.asks ++ asks)) (more_in names t.asks asks [] (x ∷ left) t.more
      (in_turn x left asks [] (Some c) is had refl)),
  had ∙ ap (nat_lt 0) (let n = t.none in let e = here_append t.asks asks in
      let z : here_in asks ≡ here_in (t.asks ++ asks) = omega arith in z),
  cell_is,
  does_on t.asks asks t.does does,
)
try_ends names left x cell (Err w) d t (asks, next, rest, is, wanting, does) e =
    let (ys, all) = extend 1 (x ∷ []) left (asks ++ next ∷ rest) is in (
      t.asks ++ asks,
      next,
      rest ++ ys,
      more_in names t.asks asks (next ∷ (rest ++ ys)) (x ∷ left) t.more (subst (IsAsked 1 (x ∷ left))
          (append_assoc asks (next ∷ rest) ys) all),
      wanting,
      does_more t.asks asks (want w) t.does does,
    )

-- the copies are those from the first on
pub copies_all : (copies i n : ℕ) → copies ≡ n → map (λ k. name.Copy k i) (range_with_len 0 n) ≡ copies_from copies i 0
copies_all copies i n e = ap (λ (k : ℕ). map (λ k. name.Copy k i) (range_with_len 0 k))
    (let z : n ≡ copies - 0 = omega arith in z)

-- none is left
pub try_over : (names : List Name) (cell : List ℕ) {a b : Actor} → Trying names [] a b → Asks names cell (Ok None) a b
try_over names cell t = (
  t.asks,
  subst (IsAsked 1 names) (append-nil t.asks) (t.more [] refl),
  let n = t.none in grind (arith, nat_tests),
  tt,
  t.does,
)
