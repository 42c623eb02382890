-- Sums and products together: a sum scaled, two sums in either order, a sum in blocks, and the merging of sums by a
-- point.
use Rattle.std.proofs.Common.{◌≡◌, ◌≢◌, ℕ, zero, suc, ◌+◌, ◌-◌, ◌*◌, ◌<◌, ◌≤◌, List, length, get_or, bit_xor, refl, sym}
use Rattle.std.proofs.Common.{ap, ap₂, ◌∙◌, subst, arith, inl, inr, suc-mul, zero-mul, mul_comm}
use Rattle.std.specs.Int.Bits.{xor_zero_r}
use Rattle.std.proofs.lemmas.Bool.{cases_eq}
use Rattle.std.proofs.lemmas.List.{get_or_past}
use Rattle.std.proofs.lemmas.Nat.{mul-add-lt}
use Rattle.mf_code.specs.Field.{times, power}
use Rattle.mf_code.specs.Sums.{sum_below, weighted}
use Rattle.mf_code.proofs.Sums.{sum_below-same, sum_below-zero, sum_below-add, sum_below_xor}
use Rattle.mf_field.proofs.FieldLaws.{times_add, add_times, times-zero, zero-times, times_assoc}
use Rattle.mf_field.proofs.Powers.{power-lt, power-add}

-- ---- a sum scaled

pub times_sum : (c n : ℕ) (f : ℕ → ℕ) → times c (sum_below n f) ≡ sum_below n (λ i. times c (f i))
unfolding sum_below
times_sum c zero f = times-zero c
times_sum c (suc n) f = times_add c (sum_below n f) (f n) ∙ ap (λ (s : ℕ). bit_xor s (times c (f n))) (times_sum c n f)

pub sum_times : (c n : ℕ) (f : ℕ → ℕ) → times (sum_below n f) c ≡ sum_below n (λ i. times (f i) c)
unfolding sum_below
sum_times c zero f = zero-times c
sum_times c (suc n) f = add_times (sum_below n f) (f n) c ∙ ap (λ (s : ℕ). bit_xor s (times (f n) c)) (sum_times c n f)

-- ---- two sums in either order

pub sum_below_swap : (m n : ℕ) (f : ℕ → ℕ → ℕ) → sum_below m (λ i. sum_below n (f i))
    ≡ sum_below n (λ j. sum_below m (λ i. f i j))
unfolding sum_below
sum_below_swap zero n f = sym (sum_below-zero n (λ j. 0) (λ i lt. refl))
sum_below_swap (suc m) n f =
    ap (λ (s : ℕ). bit_xor s (sum_below n (f m))) (sum_below_swap m n f)
    ∙ sym (sum_below_xor n (λ j. sum_below m (λ i. f i j)) (f m))

-- ---- parts that are 0

-- terms that are 0 from m on can be left out
pub sum_below-front : (m n : ℕ) (f : ℕ → ℕ) → m ≤ n → ((i : ℕ) → m ≤ i → i < n → f i ≡ 0)
    → sum_below n f ≡ sum_below m f
sum_below-front m n f le zeros =
    ap (λ (k : ℕ). sum_below k f) (let e : n ≡ m + (n - m) = omega arith in e)
    ∙ sum_below-add m (n - m) f
    ∙ ap (bit_xor (sum_below m f))
    (sum_below-zero (n - m) (λ i. f (m + i)) (λ i lt. zeros (m + i) (omega arith) (omega arith)))
    ∙ xor_zero_r (sum_below m f)

-- a sum with one term that may be other than 0
pub sum_below-single : (n k : ℕ) (f : ℕ → ℕ) → k < n → ((i : ℕ) → i < n → i ≢ k → f i ≡ 0) → sum_below n f ≡ f k
unfolding sum_below
sum_below-single zero k f lt zeros = absurd (omega arith)
sum_below-single (suc n) k f lt zeros = elim (cases_eq n k) [
  | inl e ↦
      ap (λ (s : ℕ). bit_xor s (f n)) (sum_below-zero n f (λ i l. zeros i (omega arith) (λ h. omega arith))) ∙ ap f e
  | inr ne ↦
      ap₂ bit_xor (sum_below-single n k f (omega arith) (λ i l. zeros i (omega arith))) (zeros n (omega arith) ne)
      ∙ xor_zero_r (f k)
]

-- a sum with 0 as its one term
pub sum_below-one : (f : ℕ → ℕ) → sum_below 1 f ≡ f 0
unfolding sum_below
sum_below-one f = refl

-- ---- a sum in blocks

pub sum_below-blocks : (n k : ℕ) (f : ℕ → ℕ) → sum_below (n * k) f ≡ sum_below n (λ b. sum_below k (λ i. f (b * k + i)))
unfolding sum_below
sum_below-blocks zero k f = ap (λ (m : ℕ). sum_below m f) (zero-mul k)
sum_below-blocks (suc n) k f =
    ap (λ (m : ℕ). sum_below m f) (suc-mul n k) ∙ sum_below-add (n * k) k f
    ∙ ap (λ (s : ℕ). bit_xor s (sum_below k (λ i. f (n * k + i)))) (sum_below-blocks n k f)

-- ---- merging

-- the term of place b * k + i
merging_term : (point k b i x : ℕ) → point < 256 → x < 256 → times (power point (b * k)) (times (power point i) x)
    ≡ times (power point (b * k + i)) x
merging_term point k b i x lp lx =
    sym (times_assoc (power point (b * k)) (power point i) x (power-lt point (b * k) lp) (power-lt point i lp) lx)
    ∙ ap (λ (c : ℕ). times c x) (sym (power-add point (b * k) i lp))

-- The sum over the n blocks b of point ^ (b * k) times the sum by the point over the k bytes of the block is the sum by
-- the
-- point over all n * k bytes.
pub merging : (point n k : ℕ) (x : ℕ → ℕ) → point < 256 → ((t : ℕ) → t < n * k → x t < 256)
    → sum_below n (λ b. times (power point (b * k)) (sum_below k (λ i. times (power point i) (x (b * k + i)))))
    ≡ sum_below (n * k) (λ t. times (power point t) (x t))
merging point n k x lp bytes =
    sum_below-same n (λ b. times (power point (b * k)) (sum_below k (λ i. times (power point i) (x (b * k + i)))))
    (λ b. sum_below k (λ i. times (power point (b * k + i)) (x (b * k + i))))
    (λ b lb. times_sum (power point (b * k)) k (λ i. times (power point i) (x (b * k + i)))
    ∙ sum_below-same k (λ i. times (power point (b * k)) (times (power point i) (x (b * k + i))))
    (λ i. times (power point (b * k + i)) (x (b * k + i)))
    (λ i li. merging_term point k b i (x (b * k + i)) lp (bytes (b * k + i) (in_block n k b i lb li))))
    ∙ sym (sum_below-blocks n k (λ t. times (power point t) (x t)))
  where
    in_block : (n k b i : ℕ) → b < n → i < k → b * k + i < n * k
    in_block n k b i lb li = subst (λ (m : ℕ). b * k + i < m) (mul_comm k n) (mul-add-lt b k i n lb li)

-- beyond the end of a list there are zeros, which add nothing
pub weighted_front : (point : ℕ) (xs : List ℕ) (n : ℕ) → length xs ≤ n
    → sum_below n (λ t. times (power point t) (get_or xs t 0)) ≡ weighted point xs
weighted_front point xs n le =
    sum_below-front (length xs) n (λ t. times (power point t) (get_or xs t 0)) le
    (λ i past lt. ap (times (power point i)) (get_or_past xs i 0 past) ∙ times-zero (power point i))
