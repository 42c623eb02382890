-- The product is linear on each side, and a linear function is known from its values at the eight powers of two.
use Rattle.std.proofs.Common.{◌≡◌, ℕ, zero, suc, ◌+◌, ◌*◌, ◌/◌, ◌%◌, ◌^◌, ◌<◌, bit_xor, Bool, true, false, cond, eqb}
use Rattle.std.proofs.Common.{refl, sym, ap, ap₂, ◌∙◌, subst, arith, mod-lt, pow_pos, pow-suc, mul_comm}
use Rattle.std.proofs.Common.{div-lt_iff_lt-mul, zero-mul, one-mul}
use Rattle.std.specs.Int.{bit_at}
use Rattle.std.specs.Int.Bits.{xor_assoc, xor_zero_r, xor_self}
use Rattle.std.proofs.lemmas.Nat.{xor_lt}
use Rattle.std.proofs.lemmas.Nat.Bits.{bit_at_xor, bit_at-lt}
use Rattle.mf_lemmas.proofs.Numbers.{xor_swap, xor_shl, high_and_rest}
use Rattle.mf_code.specs.Field.{carryless, remainder, times}

-- ---- a function that takes sums to sums

abbrev pub Linear : (ℕ → ℕ) → Type 0
Linear f = (x y : ℕ) → f (bit_xor x y) ≡ bit_xor (f x) (f y)

pub Linear-zero : (f : ℕ → ℕ) → Linear f → f 0 ≡ 0
Linear-zero f h = sym (xor_zero_r (f 0)) ∙ ap (bit_xor (f 0)) (sym (xor_self (f 0)))
    ∙ sym (xor_assoc (f 0) (f 0) (f 0)) ∙ ap (λ (x : ℕ). bit_xor x (f 0)) (sym (h 0 0)) ∙ xor_self (f 0)

pub Linear-after : (f g : ℕ → ℕ) → Linear f → Linear g → Linear (λ x. f (g x))
Linear-after f g hf hg x y = ap f (hg x y) ∙ hf (g x) (g y)

top_bit : (n x : ℕ) → x < 2 ^ suc n → x / 2 ^ n < 2
top_bit n x lt = (div-lt_iff_lt-mul (pow_pos n)).1 (subst (λ (k : ℕ). x < k) (pow-suc 2 n ∙ mul_comm (2 ^ n) 2) lt)

at_bit : (f g : ℕ → ℕ) → Linear f → Linear g → (q v : ℕ) → q < 2 → f v ≡ g v → f (q * v) ≡ g (q * v)
at_bit f g hf hg zero v lt e = ap f (zero-mul v) ∙ Linear-zero f hf ∙ sym (Linear-zero g hg) ∙ ap g (sym (zero-mul v))
at_bit f g hf hg (suc zero) v lt e = ap f (one-mul v) ∙ e ∙ ap g (sym (one-mul v))
at_bit f g hf hg (suc (suc q)) v lt e = absurd (omega arith)

-- linear functions that agree at the powers of two agree on every number of n bits
pub Linear-same : (f g : ℕ → ℕ) → Linear f → Linear g → (n : ℕ) → ((i : ℕ) → i < n → f (2 ^ i) ≡ g (2 ^ i)) → (x : ℕ)
    → x < 2 ^ n → f x ≡ g x
Linear-same f g hf hg zero at x lt = let e : x ≡ 0 = omega arith in ap f e ∙ Linear-zero f hf ∙ sym (Linear-zero g hg)
    ∙ ap g (sym e)
Linear-same f g hf hg (suc n) at x lt =
    let q = x / 2 ^ n in
    let r = x % 2 ^ n in
    ap f (sym (high_and_rest n x)) ∙ hf (q * 2 ^ n) r
    ∙ ap₂ bit_xor
    (at_bit f g hf hg q (2 ^ n) (top_bit n x lt) (at n (omega arith)))
    (Linear-same f g hf hg n (λ i l. at i (omega arith)) r (mod-lt x (pow_pos n)))
    ∙ sym (hg (q * 2 ^ n) r) ∙ ap g (high_and_rest n x)

-- a linear function whose values at the powers of two are below 2 ^ k has only such values on n bits
pub Linear-lt : (k : ℕ) (f : ℕ → ℕ) → Linear f → (n : ℕ) → ((i : ℕ) → i < n → f (2 ^ i) < 2 ^ k) → (x : ℕ) → x < 2 ^ n
    → f x < 2 ^ k
Linear-lt k f hf zero at x lt = let e : x ≡ 0 = omega arith in subst (λ (v : ℕ). v < 2 ^ k)
    (sym (ap f e ∙ Linear-zero f hf)) (pow_pos k)
Linear-lt k f hf (suc n) at x lt =
    let q = x / 2 ^ n in
    let r = x % 2 ^ n in
    subst (λ (v : ℕ). v < 2 ^ k) (sym (hf (q * 2 ^ n) r) ∙ ap f (high_and_rest n x))
    (xor_lt k (f (q * 2 ^ n)) (f r) (lt_at_bit k f hf q (2 ^ n) (top_bit n x lt) (at n (omega arith)))
    (Linear-lt k f hf n (λ i l. at i (omega arith)) r (mod-lt x (pow_pos n))))
  where
    lt_at_bit : (k : ℕ) (f : ℕ → ℕ) → Linear f → (q v : ℕ) → q < 2 → f v < 2 ^ k → f (q * v) < 2 ^ k
    lt_at_bit k f hf zero v lt h = subst (λ (x : ℕ). x < 2 ^ k) (sym (ap f (zero-mul v) ∙ Linear-zero f hf)) (pow_pos k)
    lt_at_bit k f hf (suc zero) v lt h = subst (λ (x : ℕ). f x < 2 ^ k) (sym (one-mul v)) h
    lt_at_bit k f hf (suc (suc q)) v lt h = absurd (omega arith)

-- ---- the product is linear on each side

-- v where a bit is one, and else 0
abbrev where_one : ℕ → ℕ → ℕ
where_one b v = cond (eqb b 1) v 0

where_one_xor : (x y v : ℕ) → x < 2 → y < 2 → where_one ((x + y) % 2) v ≡ bit_xor (where_one x v) (where_one y v)
where_one_xor zero zero v a b = refl
where_one_xor zero (suc zero) v a b = refl
where_one_xor (suc zero) zero v a b = sym (xor_zero_r v)
where_one_xor (suc zero) (suc zero) v a b = sym (xor_self v)
where_one_xor (suc (suc x)) y v a b = absurd (omega arith)
where_one_xor zero (suc (suc y)) v a b = absurd (omega arith)
where_one_xor (suc zero) (suc (suc y)) v a b = absurd (omega arith)

bit_where_one_xor : (x y n v : ℕ) → where_one (bit_at (bit_xor x y) n) v ≡ bit_xor (where_one (bit_at x n) v)
    (where_one (bit_at y n) v)
bit_where_one_xor x y n v =
    ap (λ (b : ℕ). where_one b v) (bit_at_xor x y n)
    ∙ where_one_xor (bit_at x n) (bit_at y n) v (bit_at-lt x n) (bit_at-lt y n)

cond_xor : (b : Bool) (v w : ℕ) → cond b (bit_xor v w) 0 ≡ bit_xor (cond b v 0) (cond b w 0)
cond_xor true v w = refl
cond_xor false v w = refl

pub carryless_right : (n a : ℕ) → Linear (carryless n a)
unfolding carryless
carryless_right zero a x y = refl
carryless_right (suc n) a x y =
    ap₂ bit_xor (carryless_right n a x y) (bit_where_one_xor x y n (a * 2 ^ n))
    ∙ xor_swap (carryless n a x) (carryless n a y) (where_one (bit_at x n) (a * 2 ^ n))
    (where_one (bit_at y n) (a * 2 ^ n))

pub carryless_left : (n b : ℕ) → Linear (λ a. carryless n a b)
unfolding carryless
carryless_left zero b x y = refl
carryless_left (suc n) b x y =
    ap₂ bit_xor (carryless_left n b x y)
    (ap (λ (v : ℕ). where_one (bit_at b n) v) (xor_shl n x y) ∙ cond_xor (eqb (bit_at b n) 1) (x * 2 ^ n) (y * 2 ^ n))
    ∙ xor_swap (carryless n x b) (carryless n y b) (where_one (bit_at b n) (x * 2 ^ n))
    (where_one (bit_at b n) (y * 2 ^ n))

taken_off : (b : Bool) (p c : ℕ) → cond b (bit_xor p c) p ≡ bit_xor p (cond b c 0)
taken_off true p c = refl
taken_off false p c = sym (xor_zero_r p)

pub remainder_linear : (n : ℕ) → Linear (remainder n)
unfolding remainder
remainder_linear zero x y = refl
remainder_linear (suc n) x y =
    let c = 0x11D * 2 ^ n in
    let k = n + 8 in
    ap (remainder n)
    (taken_off (eqb (bit_at (bit_xor x y) k) 1) (bit_xor x y) c
    ∙ ap (bit_xor (bit_xor x y)) (bit_where_one_xor x y k c)
    ∙ xor_swap x y (where_one (bit_at x k) c) (where_one (bit_at y k) c)
    ∙ ap₂ bit_xor (sym (taken_off (eqb (bit_at x k) 1) x c)) (sym (taken_off (eqb (bit_at y k) 1) y c)))
    ∙ remainder_linear n (cond (eqb (bit_at x k) 1) (bit_xor x c) x) (cond (eqb (bit_at y k) 1) (bit_xor y c) y)

-- a · (x + y) is a · x + a · y
pub times-xor : (a : ℕ) → Linear (times a)
unfolding times
times-xor a x y = ap (remainder 8) (carryless_right 8 a x y) ∙ remainder_linear 8 (carryless 8 a x) (carryless 8 a y)

-- (x + y) · b is x · b + y · b
pub xor-times : (b : ℕ) → Linear (λ a. times a b)
unfolding times
xor-times b x y = ap (remainder 8) (carryless_left 8 b x y) ∙ remainder_linear 8 (carryless 8 x b) (carryless 8 y b)
