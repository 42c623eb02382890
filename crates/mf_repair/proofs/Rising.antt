-- The names of an asking are different: they rise by a key. Chunk i has four keys, its data's and then its copies',
-- and
-- the parities stand behind the m chunks.
use Rattle.std.proofs.Common.{◌≡◌, ℕ, zero, suc, ◌+◌, ◌*◌, ◌<◌, ◌≤◌, Bool, true, false, not, cond, List, [], ◌∷◌}
use Rattle.std.proofs.Common.{◌++◌}
use Rattle.std.proofs.Common.{length, map, filter, refl, sym, ap, ◌∙◌, subst, arith}
use Rattle.std.specs.List.{range_with_len}
use Rattle.std.proofs.lemmas.List.{map-append}
use Rattle.mf_places.specs.declared.Name.{Name}
use Rattle.mf_places.specs.declared.Name.TheVariants as name
use Rattle.mf_places.specs.Facts.{BookFacts}
use Rattle.mf_places.specs.Generations.{pieces_of}
use Rattle.mf_shape.specs.Stages.{width_at, copies_at, parities_at}
use Rattle.mf_read.specs.Asking.{Found, Ask, here, lost, away, lost_in, one_lost, still, IsAsked, homes_of, AreAsked}
use Rattle.mf_read.specs.Asking.{joined}
use Rattle.mf_read.specs.Asking.{missing, IsAsking}
use Rattle.mf_repair.specs.Repair.{same_name, once}
use Rattle.mf_repair.proofs.Same.{same_is, others}

abbrev key : ℕ → Name → ℕ
key m (name.Data i) = 4 * i
key m (name.Copy c i) = 4 * i + 1 + c
key m (name.Parity w j p) = 4 * m + p

-- these numbers rise strictly, from lo on and below hi
abbrev Rising : (lo hi : ℕ) → List ℕ → Type 0
Rising lo hi [] = lo ≤ hi
Rising lo hi (k ∷ ks) = (lo ≤ k) × Rising (k + 1) hi ks

rising_le : (lo hi : ℕ) (ks : List ℕ) → Rising lo hi ks → lo ≤ hi
rising_le lo hi [] r = r
rising_le lo hi (k ∷ ks) (low, r) = let l = rising_le (k + 1) hi ks r in omega arith

rising_from : (lo to hi : ℕ) (ks : List ℕ) → lo ≤ to → Rising to hi ks → Rising lo hi ks
rising_from lo to hi [] less r = omega arith
rising_from lo to hi (k ∷ ks) less (low, r) = ((omega arith), r)

rising_append : (lo mid to hi : ℕ) (xs ys : List ℕ) → mid ≤ to → Rising lo mid xs → Rising to hi ys
    → Rising lo hi (xs ++ ys)
rising_append lo mid to hi [] ys less x y = rising_from lo to hi ys (omega arith) y
rising_append lo mid to hi (k ∷ xs) ys less (low, x) y = (low, rising_append (k + 1) mid to hi xs ys less x y)

abbrev names_of : ℕ → List Ask → List ℕ
names_of m [] = []
names_of m (a ∷ asks) = key m a.name ∷ names_of m asks

names_append : (m : ℕ) (xs ys : List Ask) → names_of m (xs ++ ys) ≡ names_of m xs ++ names_of m ys
names_append m [] ys = refl
names_append m (a ∷ xs) ys = ap (λ l. key m a.name ∷ l) (names_append m xs ys)

-- a front of rising names rises
asked_rises : (m lo hi n : ℕ) (names : List Name) (asks : List Ask) → IsAsked n names asks
    → Rising lo hi (map (key m) names) → Rising lo hi (names_of m asks)
asked_rises m lo hi zero names asks is r = subst (λ l. Rising lo hi (names_of m l)) (sym is)
    (rising_le lo hi (map (key m) names) r)
asked_rises m lo hi (suc n) [] asks is r = subst (λ l. Rising lo hi (names_of m l)) (sym is) r
asked_rises m lo hi (suc n) (x ∷ names) [] is r = absurd is
asked_rises m lo hi (suc n) (x ∷ names) (a ∷ asks) (e, is) (low, r) =
    subst (λ y. (lo ≤ key m y) × Rising (key m y + 1) hi (names_of m asks)) (sym e)
    (low, asked_rises m (key m x + 1) hi (still a.found n) names asks is r)

copies_rise : (m i c k lo hi : ℕ) → lo ≤ 4 * i + 1 + c → 4 * i + 1 + c + k ≤ hi
    → Rising lo hi (map (key m) (map (λ d. name.Copy d i) (range_with_len c k)))
copies_rise m i c zero lo hi low high = omega arith
copies_rise m i c (suc k) lo hi low high =
    (low, copies_rise m i (c + 1) k (4 * i + 1 + c + 1) hi (omega arith) (omega arith))

parities_rise : (m w j p k lo hi : ℕ) → lo ≤ 4 * m + p → 4 * m + p + k ≤ hi
    → Rising lo hi (map (key m) (map (λ q. name.Parity w j q) (range_with_len p k)))
parities_rise m w j p zero lo hi low high = omega arith
parities_rise m w j p (suc k) lo hi low high =
    (low, parities_rise m w j (p + 1) k (4 * m + p + 1) hi (omega arith) (omega arith))

pieces_rise : (b : BookFacts) (g m c n : ℕ) (pieces : List (List Ask)) → copies_at b.shape.stages g ≤ 3
    → AreAsked b g (range_with_len c n) pieces → Rising (4 * c) (4 * (c + n)) (names_of m (joined pieces))
pieces_rise b g m c zero pieces few is = subst (λ l. Rising (4 * c) (4 * (c + 0)) (names_of m (joined l))) (sym is)
    (omega arith)
pieces_rise b g m c (suc n) [] few is = absurd is
pieces_rise b g m c (suc n) (asks ∷ pieces) few (is, rest) =
    subst (λ l. Rising (4 * c) (4 * (c + suc n)) l) (sym (names_append m asks (joined pieces)))
    (subst (λ h. Rising (4 * c) h (names_of m asks ++ names_of m (joined pieces)))
    (let z : 4 * (c + 1 + n) ≡ 4 * (c + suc n) = omega arith in z)
    (rising_append (4 * c) (4 * c + 4) (4 * (c + 1)) (4 * (c + 1 + n)) (names_of m asks) (names_of m (joined pieces))
    (omega arith)
    (asked_rises m (4 * c) (4 * c + 4) 1 (homes_of b g c) asks is
    (omega arith, copies_rise m c 0 (copies_at b.shape.stages g) (4 * c + 1) (4 * c + 4) (omega arith) (omega arith)))
    (pieces_rise b g m (c + 1) n pieces few rest)))

abbrev lost_keys : ℕ → List (Name × ℕ) → List ℕ
lost_keys m [] = []
lost_keys m (x ∷ xs) = key m x.0 ∷ lost_keys m xs

lost_rise : (m lo hi : ℕ) (asks : List Ask) → Rising lo hi (names_of m asks) → Rising lo hi (lost_keys m
    (lost_in asks))
lost_rise m lo hi [] r = r
lost_rise m lo hi (a ∷ asks) (low, r) = step a.found low (lost_rise m (key m a.name + 1) hi asks r) where
  step : (f : Found) → lo ≤ key m a.name → Rising (key m a.name + 1) hi (lost_keys m (lost_in asks))
      → Rising lo hi (lost_keys m (one_lost a.name f ++ lost_in asks))
  step here low rest = rising_from lo (key m a.name + 1) hi (lost_keys m (lost_in asks)) (omega arith) rest
  step (lost l) low rest = (low, rest)
  step (away s) low rest = rising_from lo (key m a.name + 1) hi (lost_keys m (lost_in asks)) (omega arith) rest

others_stay : (m lo hi : ℕ) (x : Name) (zs : List (Name × ℕ)) → Rising lo hi (lost_keys m zs) → key m x < lo
    → filter (others x) zs ≡ zs
others_stay m lo hi x [] r low = refl
others_stay m lo hi x (z ∷ zs) (from, r) low =
    step (same_name x z.0) refl from (others_stay m (key m z.0 + 1) hi x zs r (omega arith)) where
      step : (c : Bool) → same_name x z.0 ≡ c → lo ≤ key m z.0 → filter (others x) zs ≡ zs
          → cond (not (same_name x z.0)) (z ∷ filter (others x) zs) (filter (others x) zs) ≡ z ∷ zs
      step true e from rest = absurd (let k = ap (key m) (same_is x z.0 e) in omega arith)
      step false e from rest = ap (λ b. cond (not b) (z ∷ filter (others x) zs) (filter (others x) zs)) e
          ∙ ap (λ l. z ∷ l) rest

once_same : (m lo hi : ℕ) (zs : List (Name × ℕ)) → Rising lo hi (lost_keys m zs) → once zs ≡ zs
once_same m lo hi [] r = refl
once_same m lo hi (z ∷ zs) (from, r) = ap (λ l. z ∷ l) (ap (filter (others z.0)) (once_same m (key m z.0 + 1) hi zs r)
    ∙ others_stay m (key m z.0 + 1) hi z.0 zs r (omega arith))

-- so what an asking found lost has each name once
pub asking_once : (b : BookFacts) (g j : ℕ) (asks : List Ask) → copies_at b.shape.stages g ≤ 3 → IsAsking b g j asks
    → once (lost_in asks) ≡ lost_in asks
asking_once b g j asks few is =
    let w = width_at b.shape.stages g in
    let n = pieces_of b g j in
    let m = j * w + n in
    let r = parities_at b.shape.stages g in
    once_same m (4 * (j * w)) (4 * m + r) (lost_in asks) (lost_rise m (4 * (j * w)) (4 * m + r) asks
    (subst (λ l. Rising (4 * (j * w)) (4 * m + r) (names_of m l)) (sym is.order)
    (subst (λ l. Rising (4 * (j * w)) (4 * m + r) l) (sym (names_append m (joined is.pieces) is.parities))
    (rising_append (4 * (j * w)) (4 * m) (4 * m) (4 * m + r) (names_of m (joined is.pieces)) (names_of m is.parities)
    (omega arith) (pieces_rise b g m (j * w) n is.pieces few is.each)
    (asked_rises m (4 * m) (4 * m + r) (missing is.pieces) _ is.parities is.after
    (parities_rise m w j 0 r (4 * m) (4 * m + r) (omega arith) (omega arith)))))))
