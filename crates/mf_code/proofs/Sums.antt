-- What a sum is made of: its first part and its last term.
use Rattle.std.proofs.Common.{◌≡◌, ℕ, zero, suc, ◌+◌, ◌<◌, bit_xor, refl, sym, ap, ap₂, ◌∙◌, arith, add-zero, add-suc}
use Rattle.std.specs.Int.Bits.{xor_assoc, xor_zero_r}
use Rattle.std.proofs.lemmas.Nat.{xor_lt}
use Rattle.mf_lemmas.proofs.Numbers.{xor_swap}
use Rattle.mf_code.specs.Sums.{sum_below}

pub sum_below-none : (f : ℕ → ℕ) → sum_below 0 f ≡ 0
unfolding sum_below
sum_below-none f = refl

pub sum_below-more : (n : ℕ) (f : ℕ → ℕ) → sum_below (n + 1) f ≡ bit_xor (sum_below n f) (f n)
unfolding sum_below
sum_below-more n f = ap (λ (m : ℕ). sum_below m f) (let e : n + 1 ≡ suc n = omega arith in e)

-- terms that agree below n have the same sum
pub sum_below-same : (n : ℕ) (f g : ℕ → ℕ) → ((i : ℕ) → i < n → f i ≡ g i) → sum_below n f ≡ sum_below n g
unfolding sum_below
sum_below-same zero f g h = refl
sum_below-same (suc n) f g h = ap₂ bit_xor (sum_below-same n f g (λ i lt. h i (omega arith))) (h n (omega arith))

-- terms that are 0 below n have the sum 0
pub sum_below-zero : (n : ℕ) (f : ℕ → ℕ) → ((i : ℕ) → i < n → f i ≡ 0) → sum_below n f ≡ 0
unfolding sum_below
sum_below-zero zero f h = refl
sum_below-zero (suc n) f h = ap₂ bit_xor (sum_below-zero n f (λ i lt. h i (omega arith))) (h n (omega arith))

-- a sum of bytes is a byte
pub sum_below-lt : (n : ℕ) (f : ℕ → ℕ) → ((i : ℕ) → i < n → f i < 256) → sum_below n f < 256
unfolding sum_below
sum_below-lt zero f h = omega arith
sum_below-lt (suc n) f h = xor_lt 8 (sum_below n f) (f n) (sum_below-lt n f (λ i lt. h i (omega arith)))
    (h n (omega arith))

-- a sum taken apart at an index
pub sum_below-add : (m n : ℕ) (f : ℕ → ℕ) → sum_below (m + n) f ≡ bit_xor (sum_below m f) (sum_below n (λ i. f (m + i)))
unfolding sum_below
sum_below-add m zero f = ap (λ (k : ℕ). sum_below k f) (add-zero m) ∙ sym (xor_zero_r (sum_below m f))
sum_below-add m (suc n) f =
    ap (λ (k : ℕ). sum_below k f) (add-suc m n) ∙ ap (λ (s : ℕ). bit_xor s (f (m + n))) (sum_below-add m n f)
    ∙ xor_assoc (sum_below m f) (sum_below n (λ i. f (m + i))) (f (m + n))

-- the first term apart
pub sum_below-first : (n : ℕ) (f : ℕ → ℕ) → sum_below (suc n) f ≡ bit_xor (f 0) (sum_below n (λ i. f (suc i)))
unfolding sum_below
sum_below-first zero f = sym (xor_zero_r (f 0))
sum_below-first (suc n) f = ap (λ (s : ℕ). bit_xor s (f (suc n))) (sum_below-first n f)
    ∙ xor_assoc (f 0) (sum_below n (λ i. f (suc i))) (f (suc n))

-- the sum of sums, term by term
pub sum_below_xor : (n : ℕ) (f g : ℕ → ℕ) → sum_below n (λ i. bit_xor (f i) (g i)) ≡ bit_xor (sum_below n f)
    (sum_below n g)
unfolding sum_below
sum_below_xor zero f g = refl
sum_below_xor (suc n) f g =
    ap (λ (s : ℕ). bit_xor s (bit_xor (f n) (g n))) (sum_below_xor n f g)
    ∙ xor_swap (sum_below n f) (sum_below n g) (f n) (g n)
