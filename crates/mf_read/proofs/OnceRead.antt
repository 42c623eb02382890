-- Where the whole state is told, gets in the order of an asking are one list.
use Rattle.std.proofs.Common.{◌≡◌, ◌≢◌, ℕ, zero, suc, ◌<◌, ◌≤◌, List, [], ◌∷◌, ◌++◌}
use Rattle.std.proofs.Common.{Some, refl, sym, ap, ◌∙◌, subst, append_assoc, append-nil, ⊎_elim, arith}
use Rattle.std.proofs.lemmas.Bool.{cases_lt}
use Rattle.mf_machine.specs.Moves.{run}
use Rattle.mf_machine.specs.Worlds.{World}
use Rattle.mf_places.specs.declared.Name.{Name}
use Rattle.mf_places.specs.Facts.{BookFacts}
use Rattle.mf_places.specs.Generations.{pieces_at, parities_of_stripe}
use Rattle.mf_vault.specs.declared.answers.Got.TheVariants as got
use Rattle.mf_vault.specs.Facts.{Facts, file}
use Rattle.mf_vault.specs.Actor.{Actor, Call, get, did, moves, onward}
use Rattle.mf_vault.specs.Answers.{Goes}
use Rattle.mf_vault.specs.Licence.{Does, AreFair, AreTold, did_all}
use Rattle.mf_vault.proofs.Once.{one_answer}
use Rattle.mf_read.specs.Asking.{Found, Ask, here, lost, away, here_in, still, IsAsked, AreAsked, missing, joined}
use Rattle.mf_read.specs.Asking.{IsAsking, IsServed, IsShort, got_of, get_of, gets}
use Rattle.mf_read.specs.Asking.{homes_of}
use Rattle.mf_read.specs.Reading.{AreServed}
use Rattle.mf_read.proofs.Asked.{gets_append}

-- calls whose answers are promised
pub record Okay (cs : List Call) (a : Actor) : Type 0 where
  pub fair : AreFair cs a
  pub told : AreTold cs a

pub okay : {cs : List Call} {a b : Actor} → Does cs a b → Okay cs a
okay x = record { fair = x.fair; told = x.told }

pub first_goes : (c : Call) (cs : List Call) (a : Actor) → Okay (c ∷ cs) a → Goes c a (did c a)
first_goes c cs a o = record { becomes = refl; fair = o.fair.0; told = o.told.0 }

pub others_okay : (c : Call) (cs : List Call) (a : Actor) → Okay (c ∷ cs) a → Okay cs (did c a)
others_okay c cs a o = record { fair = o.fair.1; told = o.told.1 }

pub okay_front : (xs ys : List Call) (a : Actor) → Okay (xs ++ ys) a → Okay xs a
okay_front [] ys a o = record { fair = tt; told = tt }
okay_front (x ∷ xs) ys a o =
    let r = okay_front xs ys (did x a) (others_okay x (xs ++ ys) a o) in
    record { fair = (o.fair.0, r.fair); told = (o.told.0, r.told) }

pub okay_behind : (xs ys : List Call) (a : Actor) → Okay (xs ++ ys) a → Okay ys (did_all xs a)
okay_behind [] ys a o = o
okay_behind (x ∷ xs) ys a o = okay_behind xs ys (did x a) (others_okay x (xs ++ ys) a o)

pub front_gets : (f : Facts) (xs ys : List Ask) (a : Actor) → Okay (gets f (xs ++ ys)) a → Okay (gets f xs) a
front_gets f xs ys a o = okay_front (gets f xs) (gets f ys) a (subst (λ (l : List Call). Okay l a)
    (gets_append f xs ys) o)

pub behind_gets : (f : Facts) (xs ys : List Ask) (a : Actor) → Okay (gets f (xs ++ ys)) a
    → Okay (gets f ys) (did_all (gets f xs) a)
behind_gets f xs ys a o = okay_behind (gets f xs) (gets f ys) a (subst (λ (l : List Call). Okay l a)
    (gets_append f xs ys) o)

-- the whole state is told on
abbrev pub Tells : Actor → Type 0
Tells a = (w : World) × (a.whole ≡ Some w)

pub tells_after : (c : Call) (a : Actor) → Tells a → Tells (did c a)
tells_after c a (w, e) =
    (run (file a.facts) w (moves a.facts w c), ap (onward (λ (w : World). run (file a.facts) w (moves a.facts w c))) e)

pub tells_all : (cs : List Call) (a : Actor) → Tells a → Tells (did_all cs a)
tells_all [] a t = t
tells_all (c ∷ cs) a t = tells_all cs (did c a) (tells_after c a t)

-- one get
not_memory : (f : Facts) (x : Name) (r : Found) → got_of f x r ≢ got.Memory
not_memory f x here e = let z : got.Here _ ≡ got.Memory = e in cc
not_memory f x (lost l) e = let z : got.Lost l ≡ got.Memory = e in cc
not_memory f x (away s) e = let z : got.Away s ≡ got.Memory = e in cc

one_found : (f : Facts) (x : Name) (r s : Found) → got_of f x r ≡ got_of f x s → r ≡ s
one_found f x here here e = refl
one_found f x here (lost l) e = absurd (let z : got.Here _ ≡ got.Lost l = e in cc)
one_found f x here (away s) e = absurd (let z : got.Here _ ≡ got.Away s = e in cc)
one_found f x (lost l) here e = absurd (let z : got.Lost l ≡ got.Here _ = e in cc)
one_found f x (lost l) (lost k) e = ap lost (let z : got.Lost l ≡ got.Lost k = e in let y : l ≡ k = cc in y)
one_found f x (lost l) (away s) e = absurd (let z : got.Lost l ≡ got.Away s = e in cc)
one_found f x (away s) here e = absurd (let z : got.Away s ≡ got.Here _ = e in cc)
one_found f x (away s) (lost l) e = absurd (let z : got.Away s ≡ got.Lost l = e in cc)
one_found f x (away s) (away t) e = ap away (let z : got.Away s ≡ got.Away t = e in let y : s ≡ t = cc in y)

one_ask : (f : Facts) (x : Name) (r s : Found) (xs ys : List Ask) (a : Actor) → Tells a
    → Okay (gets f ((record { name = x; found = r }) ∷ xs)) a
    → Okay (gets f ((record { name = x; found = s }) ∷ ys)) a → r ≡ s
one_ask f x r s xs ys a (w, e) o p =
    one_found f x r s (one_answer.get a (did (get x (got_of f x r)) a) (did (get x (got_of f x s)) a) w x
    (got_of f x r) (got_of f x s) e
    (first_goes (get x (got_of f x r)) (gets f xs) a o) (first_goes (get x (got_of f x s)) (gets f ys) a p)
    (not_memory f x r) (not_memory f x s))

-- names in turn
pub same_asked : (f : Facts) (n : ℕ) (names : List Name) (xs ys : List Ask) (a : Actor) → Tells a
    → IsAsked n names xs → IsAsked n names ys
    → Okay (gets f xs) a → Okay (gets f ys) a → xs ≡ ys
same_asked f zero names xs ys a t x y o p = x ∙ sym y
same_asked f (suc n) [] xs ys a t x y o p = x ∙ sym y
same_asked f (suc n) (z ∷ names) [] ys a t x y o p = absurd x
same_asked f (suc n) (z ∷ names) (k ∷ xs) [] a t x y o p = absurd y
same_asked f (suc n) (z ∷ names) (k ∷ xs) (l ∷ ys) a t (ek, x) (el, y) o p =
    let named : l.name ≡ k.name = el ∙ sym ek in
    let p' = subst (λ (u : Name). Okay (gets f ((record { name = u; found = l.found }) ∷ ys)) a) named p in
    let found : k.found ≡ l.found = one_ask f k.name k.found l.found xs ys a t o p' in
    let same : l ≡ k = (λ i. record { name = named i; found = sym found i }) in
    let rest = same_asked f (still k.found n) names xs ys (did (get_of f k) a) (tells_after (get_of f k) a t) x
    (subst (λ (u : Ask). IsAsked (still u.found n) names ys) same y)
    (others_okay (get_of f k) (gets f xs) a o)
    (subst (λ (u : Ask). Okay (gets f ys) (did (get_of f u) a)) same (others_okay (get_of f l) (gets f ys) a p)) in
    (λ i. sym same i ∷ rest i)

-- an asking
same_pieces : (f : Facts) (b : BookFacts) (g : ℕ) (chunks : List ℕ) (ps qs : List (List Ask)) (a : Actor) → Tells a
    → AreAsked b g chunks ps → AreAsked b g chunks qs
    → Okay (gets f (joined ps)) a → Okay (gets f (joined qs)) a → ps ≡ qs
same_pieces f b g [] ps qs a t x y o p = x ∙ sym y
same_pieces f b g (i ∷ chunks) [] qs a t x y o p = absurd x
same_pieces f b g (i ∷ chunks) (k ∷ ps) [] a t x y o p = absurd y
same_pieces f b g (i ∷ chunks) (k ∷ ps) (l ∷ qs) a t (x, xs) (y, ys) o p =
    let first =
    same_asked f 1 (homes_of b g i) k l a t x y (front_gets f k (joined ps) a o) (front_gets f l (joined qs) a p) in
    let rest = same_pieces f b g chunks ps qs (did_all (gets f k) a) (tells_all (gets f k) a t) xs ys
    (behind_gets f k (joined ps) a o)
    (subst (λ (u : List Ask). Okay (gets f (joined qs)) (did_all (gets f u) a)) (sym first) (behind_gets f l
    (joined qs) a p)) in
    (λ i. first i ∷ rest i)

pub same_asking : (f : Facts) (b : BookFacts) (g j : ℕ) (xs ys : List Ask) (a : Actor) → Tells a
    → IsAsking b g j xs → IsAsking b g j ys
    → Okay (gets f xs) a → Okay (gets f ys) a → xs ≡ ys
same_asking f b g j xs ys a t x y o p =
    let o' = subst (λ (l : List Ask). Okay (gets f l) a) x.order o in
    let p' = subst (λ (l : List Ask). Okay (gets f l) a) y.order p in
    let pieces = same_pieces f b g (pieces_at b g j) x.pieces y.pieces a t x.each y.each (front_gets f
    (joined x.pieces) x.parities a o') (front_gets f (joined y.pieces) y.parities a p') in
    let parities = same_asked f (missing x.pieces) (parities_of_stripe b g j) x.parities y.parities (did_all (gets f
    (joined x.pieces)) a)
    (tells_all (gets f (joined x.pieces)) a t) x.after
    (subst (λ (l : List (List Ask)). IsAsked (missing l) (parities_of_stripe b g j) y.parities)
    (sym pieces) y.after)
    (behind_gets f (joined x.pieces) x.parities a o')
    (subst (λ (l : List (List Ask)). Okay (gets f y.parities) (did_all (gets f (joined l)) a)) (sym pieces)
    (behind_gets f (joined y.pieces) y.parities a p')) in
    x.order ∙ (λ i. joined (pieces i) ++ parities i) ∙ sym y.order

-- askings in turn
pub same_served : (f : Facts) (b : BookFacts) (g n : ℕ) (xs ys : List Ask) (a : Actor) → Tells a
    → AreServed b g n xs → AreServed b g n ys
    → Okay (gets f xs) a → Okay (gets f ys) a → xs ≡ ys
same_served f b g zero xs ys a t x y o p = x ∙ sym y
same_served f b g (suc n) xs ys a t (front, last, before, is, e) (front', last', before', is', e') o p =
    let o' = subst (λ (l : List Ask). Okay (gets f l) a) e o in
    let p' = subst (λ (l : List Ask). Okay (gets f l) a) e' p in
    let first = same_served f b g n front front' a t before before' (front_gets f front last a o')
    (front_gets f front' last' a p') in
    let rest = same_asking f b g n last last' (did_all (gets f front) a) (tells_all (gets f front) a t) is.0 is'.0
    (behind_gets f front last a o')
    (subst (λ (u : List Ask). Okay (gets f last') (did_all (gets f u) a)) (sym first)
    (behind_gets f front' last' a p')) in
    e ∙ (λ i. first i ++ rest i) ∙ sym e'

-- the asking of stripe j among them
pub record Among (b : BookFacts) (g j : ℕ) (asks : List Ask) : Type 0 where
  pub front : List Ask
  pub last : List Ask
  pub rest : List Ask
  pub before : AreServed b g j front
  pub served : IsServed b g j last
  pub order : asks ≡ (front ++ last) ++ rest

among : (b : BookFacts) (g n j : ℕ) (asks : List Ask) → AreServed b g n asks → j < n → Among b g j asks
among b g zero j asks is low = absurd (omega arith)
among b g (suc n) j asks (front, last, before, is, e) low = ⊎_elim
    (λ (less : j < n). let m = among b g n j front before less in record {
      front = m.front;
      last = m.last;
      rest = m.rest ++ last;
      before = m.before;
      served = m.served;
      order = e ∙ ap (λ (l : List Ask). l ++ last) m.order ∙ append_assoc (m.front ++ m.last) m.rest last;
    })
    (λ (more : n ≤ j). let same : n ≡ j = omega arith in record {
      front = front;
      last = last;
      rest = [];
      before = subst (λ (k : ℕ). AreServed b g k front) same before;
      served = subst (λ (k : ℕ). IsServed b g k last) same is;
      order = e ∙ sym (append-nil (front ++ last));
    })
    (cases_lt j n)

-- so no read that goes beyond a stripe finds it short
pub not_short : (f : Facts) (b : BookFacts) (g n j : ℕ) (xs front last rest : List Ask) (a : Actor) → Tells a
    → AreServed b g n xs → j < n → AreServed b g j front
    → IsShort b g j last → Okay (gets f (xs ++ rest)) a → Okay (gets f (front ++ last)) a → ⊥
not_short f b g n j xs front last rest a t served low before short o p =
    let m = among b g n j xs served low in
    let o' = subst (λ (l : List Ask). Okay (gets f l) a) m.order (front_gets f xs rest a o) in
    let q = front_gets f (m.front ++ m.last) m.rest a o' in
    let first = same_served f b g j m.front front a t m.before before (front_gets f m.front m.last a q)
    (front_gets f front last a p) in
    let rest = same_asking f b g j m.last last (did_all (gets f m.front) a) (tells_all
    (gets f m.front) a t) m.served.0 short.0 (behind_gets f m.front m.last a q)
    (subst (λ (u : List Ask). Okay (gets f last) (did_all (gets f u) a)) (sym first)
    (behind_gets f front last a p)) in
    let e = ap here_in rest in
    let had = m.served.1 in
    let few = short.1 in
    omega arith

-- two reads that end short do so at one stripe
pub same_end : (f : Facts) (b : BookFacts) (g j k : ℕ) (xs x ys y : List Ask) (a : Actor) → Tells a
    → AreServed b g j xs → IsShort b g j x → AreServed b g k ys → IsShort b g k y
    → Okay (gets f (xs ++ x)) a → Okay (gets f (ys ++ y)) a → (j ≡ k) × (xs ≡ ys) × (x ≡ y)
same_end f b g j k xs x ys y a t sx shx sy shy o p =
    let same : j ≡ k = ⊎_elim
    (λ (less : j < k). absurd (not_short f b g k j ys xs x y a t sy less sx shx p o))
    (λ (more : k ≤ j). ⊎_elim
    (λ (less : k < j). absurd (not_short f b g j k xs ys y x a t sx less sy shy o p))
    (λ (no : j ≤ k). let z : j ≡ k = omega arith in z) (cases_lt k j))
    (cases_lt j k) in
    let sy' = subst (λ (n : ℕ). AreServed b g n ys) (sym same) sy in
    let shy' = subst (λ (n : ℕ). IsShort b g n y) (sym same) shy in
    let first = same_served f b g j xs ys a t sx sy' (front_gets f xs x a o) (front_gets f ys y a p) in
    let rest = same_asking f b g j x y (did_all (gets f xs) a) (tells_all (gets f xs) a t) shx.0 shy'.0
    (behind_gets f xs x a o)
    (subst (λ (u : List Ask). Okay (gets f y) (did_all (gets f u) a)) (sym first) (behind_gets f ys y a p)) in
    (same, first, rest)
