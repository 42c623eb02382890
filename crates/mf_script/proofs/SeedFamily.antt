-- The family of every seed is accepted: parities of the points 1, 2 and 4 over stripes of six pieces, and of twelve.
use Rattle.std.proofs.Common.{◌≡◌, ◌≢◌, ℕ, zero, suc, ◌+◌, ◌*◌, ◌<◌, ◌≤◌, bit_xor, List, [], ◌∷◌, length, get_or}
use Rattle.std.proofs.Common.{refl, sym, ap, ap₂, ◌∙◌, subst, arith, inl, inr}
use Rattle.std.specs.Int.Bits.{xor_assoc, xor_zero_r, xor_self}
use Rattle.std.proofs.lemmas.Nat.{xor_lt, xor_comm}
use Rattle.mf_lemmas.proofs.Numbers.{xor_swap}
use Rattle.mf_lemmas.proofs.Rising.{Rises}
use Rattle.mf_code.specs.Field.{carryless, remainder, times, power}
use Rattle.mf_code.specs.Sums.{sum_below}
use Rattle.mf_code.specs.Decodable.{IsDecodable}
use Rattle.mf_field.proofs.FieldLaws.{times_add, add_times, times-lt, times_comm, times_assoc, times-one}
use Rattle.mf_field.proofs.FieldLaws.{one-times, times-eq-zero}
use Rattle.mf_field.proofs.Powers.{power-lt, power-pos, power-mul, power-times, power_of_one}
use Rattle.mf_field.proofs.Entries.{exponent_of_power}
use Rattle.mf_matrix.specs.Tables.{OnlyZero}
use Rattle.mf_erasure.specs.Erasure.{entry, others_from, Splits}
use Rattle.mf_erasure.proofs.Places.{erasure_of_set, rises_from}
use Rattle.mf_erasure.proofs.Bridge.{decodable_from_only_zero}
use Rattle.mf_shape.specs.declared.Stage.{Stage}
use Rattle.mf_shape.specs.Stages.{stage_at}
use Rattle.mf_shape.specs.Chain.{HasWidth, HasParities, HasCopies, IsStep}
use Rattle.mf_check.specs.Families.{IsStageDecodable, IsCode}

-- ---- sums of bytes

byte_sum : (a b : ℕ) → a < 256 → b < 256 → bit_xor a b < 256
byte_sum a b la lb = xor_lt 8 a b la lb

-- x is what must be added to y for their sum
taken_back : (x y : ℕ) → bit_xor (bit_xor x y) y ≡ x
taken_back x y = xor_assoc x y y ∙ ap (bit_xor x) (xor_self y) ∙ xor_zero_r x

same_from_zero : (x y : ℕ) → bit_xor x y ≡ 0 → x ≡ y
same_from_zero x y e = sym (taken_back x y) ∙ ap (λ z. bit_xor z y) e

-- a product that is zero has a factor that is
other_zero : (a x : ℕ) → a < 256 → x < 256 → a ≢ 0 → times a x ≡ 0 → x ≡ 0
other_zero a x la lx some e = elim (times-eq-zero a x la lx e) [ inl z ↦ absurd (some z) | inr z ↦ z ]

-- ---- two unknowns

-- their sum is zero, and so is their sum with two different factors
two_zero : (r s u v : ℕ) → r < 256 → s < 256 → u < 256 → v < 256 → r ≢ s → bit_xor u v ≡ 0
    → bit_xor (times r u) (times s v) ≡ 0 → (u ≡ 0) × (v ≡ 0)
two_zero r s u v lr ls lu lv differ sum weighted =
    let same : u ≡ v = same_from_zero u v sum in
    let product : times (bit_xor r s) u ≡ 0 =
    add_times r s u ∙ ap (λ z. bit_xor (times r u) (times s z)) same ∙ weighted in
    let none : u ≡ 0 =
    other_zero (bit_xor r s) u (byte_sum r s lr ls) lu (λ z. differ (same_from_zero r s z)) product in
    (none, sym same ∙ none)

-- the same where each unknown has a factor before
pair_zero : (a b r s c d x y : ℕ) → a < 256 → b < 256 → r < 256 → s < 256 → x < 256 → y < 256 → a ≢ 0 → b ≢ 0
    → r ≢ s → c ≡ times r a → d ≡ times s b → bit_xor (times a x) (times b y) ≡ 0
    → bit_xor (times c x) (times d y) ≡ 0 → (x ≡ 0) × (y ≡ 0)
pair_zero a b r s c d x y la lb lr ls lx ly some_a some_b differ c_is d_is first second =
    let both = two_zero r s (times a x) (times b y) lr ls (times-lt a x la lx) (times-lt b y lb ly) differ first
    (ap₂ bit_xor (sym (times_assoc r a x lr la lx) ∙ ap (λ v. times v x) (sym c_is))
    (sym (times_assoc s b y ls lb ly) ∙ ap (λ v. times v y) (sym d_is)) ∙ second) in
    (other_zero a x la lx some_a both.0, other_zero b y lb ly some_b both.1)

-- ---- three unknowns

-- the first of three is the sum of the others, so one equation has two unknowns
one_less : (a b c x y z : ℕ) → x ≡ bit_xor y z
    → bit_xor (times (bit_xor a b) y) (times (bit_xor a c) z)
    ≡ bit_xor (bit_xor (times a x) (times b y)) (times c z)
one_less a b c x y z is =
    ap₂ bit_xor (add_times a b y) (add_times a c z)
    ∙ xor_swap (times a y) (times b y) (times a z) (times c z)
    ∙ ap (λ v. bit_xor v (bit_xor (times b y) (times c z))) (sym (times_add a y z) ∙ ap (times a) (sym is))
    ∙ sym (xor_assoc (times a x) (times b y) (times c z))

square : (a b : ℕ) → a < 256 → b < 256 → times (bit_xor a b) (bit_xor a b) ≡ bit_xor (times a a) (times b b)
square a b la lb =
    add_times a b (bit_xor a b)
    ∙ ap₂ bit_xor (times_add a a b) (times_add b a b ∙ ap (λ v. bit_xor v (times b b)) (times_comm b a lb la))
    ∙ xor_assoc (times a a) (times a b) (bit_xor (times a b) (times b b))
    ∙ ap (bit_xor (times a a))
    (sym (xor_assoc (times a b) (times a b) (times b b)) ∙ ap (λ v. bit_xor v (times b b)) (xor_self (times a b)))

triple_zero : (a b c x y z : ℕ) → a < 256 → b < 256 → c < 256 → x < 256 → y < 256 → z < 256 → a ≢ b → a ≢ c → b ≢ c
    → bit_xor (bit_xor x y) z ≡ 0 → bit_xor (bit_xor (times a x) (times b y)) (times c z) ≡ 0
    → bit_xor (bit_xor (times (times a a) x) (times (times b b) y)) (times (times c c) z) ≡ 0
    → (x ≡ 0) × (y ≡ 0) × (z ≡ 0)
triple_zero a b c x y z la lb lc lx ly lz ab ac bc sum first second =
    let r : ℕ = bit_xor a b in
    let s : ℕ = bit_xor a c in
    let lr = byte_sum a b la lb in
    let ls = byte_sum a c la lc in
    let is : x ≡ bit_xor y z = same_from_zero x (bit_xor y z) (sym (xor_assoc x y z) ∙ sum) in
    let differ : r ≢ s = λ e. bc (sym (taken_back b a) ∙ ap (λ v. bit_xor v a) (xor_comm b a ∙ e ∙ xor_comm a c)
    ∙ taken_back c a) in
    let squares : bit_xor (times r (times r y)) (times s (times s z)) ≡ 0 =
    ap₂ bit_xor
    (sym (times_assoc r r y lr lr ly) ∙ ap (λ v. times v y) (square a b la lb))
    (sym (times_assoc s s z ls ls lz) ∙ ap (λ v. times v z) (square a c la lc))
    ∙ one_less (times a a) (times b b) (times c c) x y z is ∙ second in
    let both = two_zero r s (times r y) (times s z) lr ls (times-lt r y lr ly) (times-lt s z ls lz) differ
    (one_less a b c x y z is ∙ first) squares in
    let none_y : y ≡ 0 = other_zero r y lr ly (λ e. ab (same_from_zero a b e)) both.0 in
    let none_z : z ≡ 0 = other_zero s z ls lz (λ e. ac (same_from_zero a c e)) both.1 in
    (is ∙ ap₂ bit_xor none_y none_z, none_y, none_z)

-- ---- the powers of the points

two_squared : times 2 2 ≡ 4
unfolding times carryless remainder
two_squared = refl

four_is : power 2 2 ≡ 4
unfolding power times carryless remainder
four_is = refl

-- powers of 2 differ, and so do those of 4
twos_differ : (s t : ℕ) → s < t → t < 255 → power 2 s ≢ power 2 t
twos_differ s t lt few e =
    let a = exponent_of_power s (power 2 s) (omega arith) refl in
    let b = exponent_of_power t (power 2 s) few (sym e) in
    let same : s ≡ t = a ∙ sym b in omega arith

four_power : (t : ℕ) → power 4 t ≡ power 2 (2 * t)
four_power t = sym (power-mul 2 2 t (omega arith) ∙ ap (λ v. power v t) four_is)

fours_differ : (s t : ℕ) → s < t → t < 12 → power 4 s ≢ power 4 t
fours_differ s t lt few e =
    twos_differ (2 * s) (2 * t) (omega arith) (omega arith) (sym (four_power s) ∙ e ∙ four_power t)

four_square : (t : ℕ) → power 4 t ≡ times (power 2 t) (power 2 t)
four_square t = sym (ap (λ v. power v t) two_squared) ∙ power-times 2 2 t (omega arith) (omega arith)

by_one : (a t : ℕ) → a < 256 → a ≡ times a (power 1 t)
by_one a t la = sym (ap (times a) (power_of_one t) ∙ times-one a la)

some : (a t : ℕ) → 0 < a → a < 256 → power a t ≢ 0
some a t pos la e = let p = power-pos a t pos la in omega arith

-- ---- the matrix of an erasure

abbrev pub points : List ℕ
points = 1 ∷ 2 ∷ 4 ∷ []

-- a point is a byte that isn't 0
point_at : (p : ℕ) → p < 3 → (0 < get_or points p 0) × (get_or points p 0 < 256)
point_at zero lt = (omega arith, omega arith)
point_at (suc zero) lt = (omega arith, omega arith)
point_at (suc (suc zero)) lt = (omega arith, omega arith)
point_at (suc (suc (suc p))) lt = absurd (omega arith)

no_lost : (lost kept : List ℕ) → OnlyZero 0 (entry points lost kept)
no_lost lost kept x bytes rows j j_lt = absurd (omega arith)

one_lost : (p s : ℕ) → p < 3 → OnlyZero 1 (entry points (s ∷ []) (p ∷ []))
unfolding sum_below
one_lost p s lt x bytes rows j j_lt =
    let at = point_at p lt in
    let first : j ≡ 0 = omega arith in
    ap x first
    ∙ other_zero (power (get_or points p 0) s) (x 0) (power-lt (get_or points p 0) s at.1) (bytes 0)
    (some (get_or points p 0) s at.0 at.1) (rows 0 (omega arith))

pair_at : (p q s t x y : ℕ) → p < q → q < 3 → s < t → t < 12 → x < 256 → y < 256
    → bit_xor (times (power (get_or points p 0) s) x) (times (power (get_or points p 0) t) y) ≡ 0
    → bit_xor (times (power (get_or points q 0) s) x) (times (power (get_or points q 0) t) y) ≡ 0
    → (x ≡ 0) × (y ≡ 0)
pair_at zero zero s t x y pq q3 st t12 lx ly first second = absurd (omega arith)
pair_at zero (suc zero) s t x y pq q3 st t12 lx ly first second =
    let two_s = power-lt 2 s (omega arith) in
    let two_t = power-lt 2 t (omega arith) in
    pair_zero (power 1 s) (power 1 t) (power 2 s) (power 2 t) (power 2 s) (power 2 t) x y (power-lt 1 s (omega arith))
    (power-lt 1 t (omega arith)) two_s two_t lx ly (some 1 s (omega arith) (omega arith))
    (some 1 t (omega arith) (omega arith)) (twos_differ s t st (omega arith)) (by_one (power 2 s) s two_s)
    (by_one (power 2 t) t two_t) first second
pair_at zero (suc (suc zero)) s t x y pq q3 st t12 lx ly first second =
    let four_s = power-lt 4 s (omega arith) in
    let four_t = power-lt 4 t (omega arith) in
    pair_zero (power 1 s) (power 1 t) (power 4 s) (power 4 t) (power 4 s) (power 4 t) x y (power-lt 1 s (omega arith))
    (power-lt 1 t (omega arith)) four_s four_t lx ly (some 1 s (omega arith) (omega arith))
    (some 1 t (omega arith) (omega arith)) (fours_differ s t st t12) (by_one (power 4 s) s four_s)
    (by_one (power 4 t) t four_t) first second
pair_at zero (suc (suc (suc q))) s t x y pq q3 st t12 lx ly first second = absurd (omega arith)
pair_at (suc zero) zero s t x y pq q3 st t12 lx ly first second = absurd (omega arith)
pair_at (suc zero) (suc zero) s t x y pq q3 st t12 lx ly first second = absurd (omega arith)
pair_at (suc zero) (suc (suc zero)) s t x y pq q3 st t12 lx ly first second =
    let two_s = power-lt 2 s (omega arith) in
    let two_t = power-lt 2 t (omega arith) in
    pair_zero (power 2 s) (power 2 t) (power 2 s) (power 2 t) (power 4 s) (power 4 t) x y two_s two_t two_s two_t lx ly
    (some 2 s (omega arith) (omega arith)) (some 2 t (omega arith) (omega arith)) (twos_differ s t st (omega arith))
    (four_square s) (four_square t) first second
pair_at (suc zero) (suc (suc (suc q))) s t x y pq q3 st t12 lx ly first second = absurd (omega arith)
pair_at (suc (suc p)) q s t x y pq q3 st t12 lx ly first second = absurd (omega arith)

pair_lost : (p q s t : ℕ) → p < q → q < 3 → s < t → t < 12 → OnlyZero 2 (entry points (s ∷ t ∷ []) (p ∷ q ∷ []))
unfolding sum_below
pair_lost p q s t pq q3 st t12 x bytes rows j j_lt =
    go j j_lt
    (pair_at p q s t (x 0) (x 1) pq q3 st t12 (bytes 0) (bytes 1) (rows 0 (omega arith)) (rows 1 (omega arith)))
  where
    go : (i : ℕ) → i < 2 → (x 0 ≡ 0) × (x 1 ≡ 0) → x i ≡ 0
    go zero lt h = h.0
    go (suc zero) lt h = h.1
    go (suc (suc i)) lt h = absurd (omega arith)

triple_lost : (s t u : ℕ) → s < t → t < u → u < 12 → OnlyZero 3 (entry points (s ∷ t ∷ u ∷ []) (0 ∷ 1 ∷ 2 ∷ []))
unfolding sum_below
triple_lost s t u st tu u12 x bytes rows j j_lt =
    let plain : (n k : ℕ) → n < 256 → times (power 1 k) n ≡ n =
    λ n k ln. ap (λ v. times v n) (power_of_one k) ∙ one-times n ln in
    go j j_lt
    (triple_zero (power 2 s) (power 2 t) (power 2 u) (x 0) (x 1) (x 2) (power-lt 2 s (omega arith))
    (power-lt 2 t (omega arith)) (power-lt 2 u (omega arith)) (bytes 0) (bytes 1) (bytes 2)
    (twos_differ s t st (omega arith)) (twos_differ s u (omega arith) (omega arith)) (twos_differ t u tu (omega arith))
    (ap₂ bit_xor (ap₂ bit_xor (sym (plain (x 0) s (bytes 0))) (sym (plain (x 1) t (bytes 1))))
    (sym (plain (x 2) u (bytes 2))) ∙ rows 0 (omega arith))
    (rows 1 (omega arith))
    (ap₂ bit_xor (ap₂ bit_xor (ap (λ v. times v (x 0)) (sym (four_square s)))
    (ap (λ v. times v (x 1)) (sym (four_square t)))) (ap (λ v. times v (x 2)) (sym (four_square u)))
    ∙ rows 2 (omega arith)))
  where
    go : (i : ℕ) → i < 3 → (x 0 ≡ 0) × (x 1 ≡ 0) × (x 2 ≡ 0) → x i ≡ 0
    go zero lt h = h.0
    go (suc zero) lt h = h.1
    go (suc (suc zero)) lt h = h.2
    go (suc (suc (suc i))) lt h = absurd (omega arith)

-- as many kept parities as lost places
only_zero : (lost kept : List ℕ) → length lost ≡ length kept → Rises 0 12 lost → Rises 0 3 kept
    → OnlyZero (length lost) (entry points lost kept)
only_zero [] kept even l k = no_lost [] kept
only_zero (s ∷ lost) [] even l k = absurd (omega (arith, even))
only_zero (s ∷ []) (p ∷ []) even l k = one_lost p s (k.below 0 (omega arith))
only_zero (s ∷ []) (p ∷ q ∷ kept) even l k = absurd (omega (arith, even))
only_zero (s ∷ t ∷ lost) (p ∷ []) even l k = absurd (omega (arith, even))
only_zero (s ∷ t ∷ []) (p ∷ q ∷ []) even l k =
    pair_lost p q s t (k.rise 0 1 (omega arith) (omega arith)) (k.below 1 (omega arith))
    (l.rise 0 1 (omega arith) (omega arith)) (l.below 1 (omega arith))
only_zero (s ∷ t ∷ []) (p ∷ q ∷ r ∷ kept) even l k = absurd (omega (arith, even))
only_zero (s ∷ t ∷ u ∷ lost) (p ∷ q ∷ []) even l k = absurd (omega (arith, even))
only_zero (s ∷ t ∷ u ∷ []) (p ∷ q ∷ r ∷ []) even l k =
    let pq : p < q = k.rise 0 1 (omega arith) (omega arith) in
    let qr : q < r = k.rise 1 2 (omega arith) (omega arith) in
    let r3 : r < 3 = k.below 2 (omega arith) in
    let p_is : p ≡ 0 = omega arith in
    let q_is : q ≡ 1 = omega arith in
    let r_is : r ≡ 2 = omega arith in
    subst (λ ks. OnlyZero 3 (entry points (s ∷ t ∷ u ∷ []) ks)) (sym (λ i. p_is i ∷ q_is i ∷ r_is i ∷ []))
    (triple_lost s t u (l.rise 0 1 (omega arith) (omega arith)) (l.rise 1 2 (omega arith) (omega arith))
    (l.below 2 (omega arith)))
only_zero (s ∷ t ∷ u ∷ []) (p ∷ q ∷ r ∷ o ∷ kept) even l k = absurd (omega (arith, even))
only_zero (s ∷ t ∷ u ∷ v ∷ lost) (p ∷ q ∷ r ∷ []) even l k = absurd (omega (arith, even))
only_zero (s ∷ t ∷ u ∷ v ∷ lost) (p ∷ q ∷ r ∷ o ∷ kept) even l k =
    let pq : p < q = k.rise 0 1 (omega arith) (omega arith) in
    let qr : q < r = k.rise 1 2 (omega arith) (omega arith) in
    let ro : r < o = k.rise 2 3 (omega arith) (omega arith) in
    let o3 : o < 3 = k.below 3 (omega arith) in absurd (omega arith)

rises_wider : (low high wide : ℕ) (xs : List ℕ) → high ≤ wide → Rises low high xs → Rises low wide xs
rises_wider low high wide xs le r = record {
  from = r.from;
  below = λ j lt. let b = r.below j lt in omega arith;
  rise = r.rise;
}

-- stripes of at most twelve pieces bear the loss of any three places
pub decodable : (width : ℕ) → width ≤ 12 → IsDecodable points width
decodable width few = record {
  each = λ places set.
      let parts = erasure_of_set width 3 places set in
      let splits : Splits width 3 places parts.0 (others_from 0 3 parts.1) = parts.3 in
      decodable_from_only_zero width points places parts.0 (others_from 0 3 parts.1) splits
      (only_zero parts.0 (others_from 0 3 parts.1) splits.erasure.even
      (rises_wider 0 width 12 parts.0 few (rises_from width parts.0 splits.erasure.lost_places))
      (rises_from 3 (others_from 0 3 parts.1) splits.erasure.kept_places));
}

-- ---- the family

abbrev pub stages : List Stage
stages =
    record { width = 6; parities = 3; copies = 1 } ∷ record { width = 6; parities = 3; copies = 0 }
    ∷ record { width = 12; parities = 3; copies = 0 } ∷ []

widths : (g : ℕ) → g < 3 → HasWidth (stage_at stages g)
widths zero lt = (omega arith, omega arith)
widths (suc zero) lt = (omega arith, omega arith)
widths (suc (suc zero)) lt = (omega arith, omega arith)
widths (suc (suc (suc g))) lt = absurd (omega arith)

parities : (g : ℕ) → g < 3 → HasParities (stage_at stages g)
parities zero lt = (omega arith, omega arith)
parities (suc zero) lt = (omega arith, omega arith)
parities (suc (suc zero)) lt = (omega arith, omega arith)
parities (suc (suc (suc g))) lt = absurd (omega arith)

copies : (g : ℕ) → g < 3 → HasCopies (stage_at stages g)
copies zero lt = omega arith
copies (suc zero) lt = omega arith
copies (suc (suc zero)) lt = omega arith
copies (suc (suc (suc g))) lt = absurd (omega arith)

steps : (g : ℕ) → g + 1 < 3 → IsStep (stage_at stages g) (stage_at stages (g + 1))
steps zero lt = record { width = refl; parities = omega arith; copies = omega arith; fits = λ wider. omega arith }
steps (suc zero) lt = record { width = refl; parities = omega arith; copies = omega arith; fits = λ wider. omega arith }
steps (suc (suc g)) lt = absurd (omega arith)

nonzero : (i : ℕ) → i < 3 → get_or points i 0 ≢ 0
nonzero i lt e = let p = (point_at i lt).0 in omega arith

distinct : (i j : ℕ) → i < j → j < 3 → get_or points i 0 ≢ get_or points j 0
distinct zero zero lt few e = omega arith
distinct zero (suc zero) lt few e = omega arith
distinct zero (suc (suc zero)) lt few e = omega arith
distinct zero (suc (suc (suc j))) lt few e = omega arith
distinct (suc zero) zero lt few e = omega arith
distinct (suc zero) (suc zero) lt few e = omega arith
distinct (suc zero) (suc (suc zero)) lt few e = omega arith
distinct (suc zero) (suc (suc (suc j))) lt few e = omega arith
distinct (suc (suc i)) j lt few e = omega arith

each_stage : (g : ℕ) → g < 3 → IsStageDecodable stages points g
each_stage zero lt = decodable 6 (omega arith)
each_stage (suc zero) lt = decodable 6 (omega arith)
each_stage (suc (suc zero)) lt = decodable 12 (omega arith)
each_stage (suc (suc (suc g))) lt = absurd (omega arith)

pub accepted : IsCode (record { shape = record { stages = stages; servers = 16 }; points = points })
accepted = record {
  shape_ok = record {
    chain = record {
      some = omega arith;
      few = omega arith;
      widths = widths;
      parities = parities;
      copies = copies;
      steps = steps;
    };
    copies = λ has. omega arith;
    servers = (omega arith, omega arith);
  };
  family = record {
    points_ok = record { len = refl; nonzero = nonzero; distinct = distinct };
    decodable = each_stage;
  };
}
