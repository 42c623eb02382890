-- The field laws of the product of bytes. Sums are exclusive ors, whose laws are std's.
use Rattle.std.proofs.Common.{◌≡◌, ℕ, zero, suc, ◌+◌, ◌-◌, ◌^◌, ◌<◌, ◌⊎◌, bit_xor, Bool, true, ◌&&◌, ◌==◌, nat_lt, refl}
use Rattle.std.proofs.Common.{sym, ap, ◌∙◌, subst, arith, inl, inr, eqb-true, ltb-true}
use Rattle.std.proofs.lemmas.Bool.{and_parts, cases_lt, cases_eq}
use Rattle.mf_code.specs.Field.{carryless, remainder, times}
use Rattle.mf_field.proofs.Linear.{Linear-zero, Linear-after, Linear-same, Linear-lt, times-xor, xor-times}

-- ---- tests of every number below a bound, which are computed

pub every : ℕ → (ℕ → Bool) → Bool
every zero p = true
every (suc n) p = p n && every n p

pub every_at : (n : ℕ) (p : ℕ → Bool) → every n p ≡ true → (k : ℕ) → k < n → p k ≡ true
unfolding every
every_at zero p h k lt = absurd (omega arith)
every_at (suc n) p h k lt =
    let parts = and_parts (p n) (every n p) h in
    elim (cases_lt k n) [
      | inl below ↦ every_at n p parts.1 k below
      | inr top ↦ let e : k ≡ n = omega arith in subst (λ (x : ℕ). p x ≡ true) (sym e) parts.0
    ]

-- ---- sums, and zero

pub times_add : (a x y : ℕ) → times a (bit_xor x y) ≡ bit_xor (times a x) (times a y)
times_add a x y = times-xor a x y

pub add_times : (x y b : ℕ) → times (bit_xor x y) b ≡ bit_xor (times x b) (times y b)
add_times x y b = xor-times b x y

pub times-zero : (a : ℕ) → times a 0 ≡ 0
times-zero a = Linear-zero (times a) (times-xor a)

pub zero-times : (b : ℕ) → times 0 b ≡ 0
zero-times b = Linear-zero (λ a. times a b) (xor-times b)

-- ---- laws that are computed at the powers of two, and hold everywhere since the product is linear

test_2 : (p : ℕ → ℕ → Bool) → every 8 (λ i. every 8 (p i)) ≡ true → (i j : ℕ) → i < 8 → j < 8 → p i j ≡ true
test_2 p h i j li lj = every_at 8 (p i) (every_at 8 (λ i. every 8 (p i)) h i li) j lj

abbrev is_small : ℕ → ℕ → Bool
is_small i j = nat_lt (times (2 ^ i) (2 ^ j)) 256

abbrev commutes : ℕ → ℕ → Bool
commutes i j = times (2 ^ i) (2 ^ j) == times (2 ^ j) (2 ^ i)

abbrev associates : ℕ → ℕ → ℕ → Bool
associates i j k = times (times (2 ^ i) (2 ^ j)) (2 ^ k) == times (2 ^ i) (times (2 ^ j) (2 ^ k))

abbrev is_fixed : ℕ → Bool
is_fixed i = times (2 ^ i) 1 == 2 ^ i

small_at_powers : every 8 (λ i. every 8 (is_small i)) ≡ true
unfolding every times carryless remainder
small_at_powers = refl

commutes_at_powers : every 8 (λ i. every 8 (commutes i)) ≡ true
unfolding every times carryless remainder
commutes_at_powers = refl

associates_at_powers : every 8 (λ i. every 8 (λ j. every 8 (associates i j))) ≡ true
unfolding every times carryless remainder
associates_at_powers = refl

fixed_at_powers : every 8 is_fixed ≡ true
unfolding every times carryless remainder
fixed_at_powers = refl

-- the product of bytes is a byte
pub times-lt : (a b : ℕ) → a < 256 → b < 256 → times a b < 256
times-lt a b la lb =
    Linear-lt 8 (λ a. times a b) (xor-times b) 8
    (λ i li. Linear-lt 8 (times (2 ^ i)) (times-xor (2 ^ i)) 8
    (λ j lj. ltb-true (times (2 ^ i) (2 ^ j)) 256 (test_2 is_small small_at_powers i j li lj)) b lb)
    a la

pub times_comm : (a b : ℕ) → a < 256 → b < 256 → times a b ≡ times b a
times_comm a b la lb =
    Linear-same (λ a. times a b) (times b) (xor-times b) (times-xor b) 8
    (λ i li. Linear-same (times (2 ^ i)) (λ b. times b (2 ^ i)) (times-xor (2 ^ i)) (xor-times (2 ^ i)) 8
    (λ j lj. eqb-true (times (2 ^ i) (2 ^ j)) (times (2 ^ j) (2 ^ i)) (test_2 commutes commutes_at_powers i j li lj))
    b lb)
    a la

assoc_at_two : (i j c : ℕ) → i < 8 → j < 8 → c < 256 → times (times (2 ^ i) (2 ^ j)) c ≡ times (2 ^ i) (times (2 ^ j) c)
assoc_at_two i j c li lj lc =
    Linear-same (times (times (2 ^ i) (2 ^ j))) (λ c. times (2 ^ i) (times (2 ^ j) c))
    (times-xor (times (2 ^ i) (2 ^ j)))
    (Linear-after (times (2 ^ i)) (times (2 ^ j)) (times-xor (2 ^ i)) (times-xor (2 ^ j))) 8
    (λ k lk. eqb-true (times (times (2 ^ i) (2 ^ j)) (2 ^ k)) (times (2 ^ i) (times (2 ^ j) (2 ^ k)))
    (every_at 8 (associates i j) (test_2 (λ i j. every 8 (associates i j)) associates_at_powers i j li lj) k lk))
    c lc

assoc_at_one : (i b c : ℕ) → i < 8 → b < 256 → c < 256 → times (times (2 ^ i) b) c ≡ times (2 ^ i) (times b c)
assoc_at_one i b c li lb lc =
    Linear-same (λ b. times (times (2 ^ i) b) c) (λ b. times (2 ^ i) (times b c))
    (Linear-after (λ x. times x c) (times (2 ^ i)) (xor-times c) (times-xor (2 ^ i)))
    (Linear-after (times (2 ^ i)) (λ b. times b c) (times-xor (2 ^ i)) (xor-times c)) 8
    (λ j lj. assoc_at_two i j c li lj lc) b lb

pub times_assoc : (a b c : ℕ) → a < 256 → b < 256 → c < 256 → times (times a b) c ≡ times a (times b c)
times_assoc a b c la lb lc =
    Linear-same (λ a. times (times a b) c) (λ a. times a (times b c))
    (Linear-after (λ x. times x c) (λ a. times a b) (xor-times c) (xor-times b)) (xor-times (times b c)) 8
    (λ i li. assoc_at_one i b c li lb lc) a la

pub times-one : (a : ℕ) → a < 256 → times a 1 ≡ a
times-one a la =
    Linear-same (λ a. times a 1) (λ a. a) (xor-times 1) (λ x y. refl) 8
    (λ i li. eqb-true (times (2 ^ i) 1) (2 ^ i) (every_at 8 is_fixed fixed_at_powers i li)) a la

pub one-times : (a : ℕ) → a < 256 → times 1 a ≡ a
one-times a la = times_comm 1 a (omega arith) la ∙ times-one a la

-- ---- inverses

-- the product of the first n of a ^ 2, a ^ 4, a ^ 8 and so on
squares : ℕ → ℕ → ℕ
squares zero a = 1
squares (suc n) a =
    let b = times a a in
    times b (squares n b)

-- a ^ 254, which is the inverse of a, since a ^ 255 is 1 where a isn't 0
pub inverse : ℕ → ℕ
inverse a = squares 7 a

abbrev inverts : ℕ → Bool
inverts i = nat_lt (inverse (i + 1)) 256 && (times (i + 1) (inverse (i + 1)) == 1)

inverts_each : every 255 inverts ≡ true
unfolding every inverse squares times carryless remainder
inverts_each = refl

-- the byte of the tests at index k - 1
inverts_at : (a : ℕ) → 0 < a → a < 256 → inverts (a - 1) ≡ true
inverts_at a pos la = every_at 255 inverts inverts_each (a - 1) (omega arith)

pub inverse-lt : (a : ℕ) → 0 < a → a < 256 → inverse a < 256
inverse-lt a pos la =
    subst (λ (x : ℕ). inverse x < 256) (let e : a - 1 + 1 ≡ a = omega arith in e)
    (ltb-true (inverse (a - 1 + 1)) 256
    (and_parts (nat_lt (inverse (a - 1 + 1)) 256) (times (a - 1 + 1) (inverse (a - 1 + 1)) == 1)
    (inverts_at a pos la)).0)

pub times-inverse : (a : ℕ) → 0 < a → a < 256 → times a (inverse a) ≡ 1
times-inverse a pos la =
    subst (λ (x : ℕ). times x (inverse x) ≡ 1) (let e : a - 1 + 1 ≡ a = omega arith in e)
    (eqb-true (times (a - 1 + 1) (inverse (a - 1 + 1))) 1
    (and_parts (nat_lt (inverse (a - 1 + 1)) 256) (times (a - 1 + 1) (inverse (a - 1 + 1)) == 1)
    (inverts_at a pos la)).1)

pub inverse-times : (a : ℕ) → 0 < a → a < 256 → times (inverse a) a ≡ 1
inverse-times a pos la = times_comm (inverse a) a (inverse-lt a pos la) la ∙ times-inverse a pos la

-- what a product by a is undone by
pub inverse-times-times : (a x : ℕ) → 0 < a → a < 256 → x < 256 → times (inverse a) (times a x) ≡ x
inverse-times-times a x pos la lx =
    sym (times_assoc (inverse a) a x (inverse-lt a pos la) la lx) ∙ ap (λ (v : ℕ). times v x) (inverse-times a pos la)
    ∙ one-times x lx

pub times_cancel : (a x y : ℕ) → 0 < a → a < 256 → x < 256 → y < 256 → times a x ≡ times a y → x ≡ y
times_cancel a x y pos la lx ly e = sym (inverse-times-times a x pos la lx) ∙ ap (times (inverse a)) e
    ∙ inverse-times-times a y pos la ly

-- the inverse is the only one
pub inverse_unique : (a b : ℕ) → 0 < a → a < 256 → b < 256 → times a b ≡ 1 → b ≡ inverse a
inverse_unique a b pos la lb e = times_cancel a b (inverse a) pos la lb (inverse-lt a pos la)
    (e ∙ sym (times-inverse a pos la))

-- ---- no zero divisors

pub times-eq-zero : (a b : ℕ) → a < 256 → b < 256 → times a b ≡ 0 → (a ≡ 0) ⊎ (b ≡ 0)
times-eq-zero a b la lb e = elim (cases_eq a 0) [
  | inl z ↦ inl z
  | inr n ↦ inr (times_cancel a b 0 (omega arith) la lb (omega arith) (e ∙ sym (times-zero a)))
]

pub times-pos : (a b : ℕ) → 0 < a → a < 256 → 0 < b → b < 256 → 0 < times a b
times-pos a b pa la pb lb = elim (cases_eq (times a b) 0) [
  | inl z ↦ elim (times-eq-zero a b la lb z) [ inl x ↦ absurd (omega arith) | inr y ↦ absurd (omega arith) ]
  | inr n ↦ omega arith
]

-- ---- order is free

pub times_swap : (a b c : ℕ) → a < 256 → b < 256 → c < 256 → times a (times b c) ≡ times b (times a c)
times_swap a b c la lb lc =
    sym (times_assoc a b c la lb lc) ∙ ap (λ (v : ℕ). times v c) (times_comm a b la lb) ∙ times_assoc b a c lb la lc
