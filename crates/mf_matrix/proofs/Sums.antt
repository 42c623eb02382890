-- Sums of products with the identity, and with a list that ends early.
use Rattle.std.proofs.Common.{◌≡◌, ◌≢◌, ℕ, ◌+◌, ◌-◌, ◌<◌, inl, inr, cond, ltb, bit_xor, refl, sym, ap, ap₂, subst, ◌∙◌}
use Rattle.std.proofs.Common.{arith, add-zero}
use Rattle.std.proofs.Common.{List, [], ◌∷◌, ◌++◌, length, get_or}
use Rattle.std.proofs.lemmas.Bool.{cases_lt}
use Rattle.std.proofs.Common.{◌*◌}
use Rattle.std.proofs.Math.Nat.{mul_comm}
use Rattle.std.proofs.lemmas.Nat.{mul-add-lt}
use Rattle.std.proofs.lemmas.List.{length_push, get_or_append_left, get_or_push, get_or-append-add}
use Rattle.mf_code.specs.Rows.{list_of}
use Rattle.mf_code.proofs.Lists.{length-list_of, list_of_at, list_of_from}
use Rattle.std.proofs.lemmas.Bool.Decides.{eqb_tells, nat_tests}
use Rattle.mf_code.specs.Field.{times}
use Rattle.mf_code.specs.Sums.{sum_below}
use Rattle.mf_code.proofs.Sums.{sum_below-same, sum_below-add}
use Rattle.mf_matrix.specs.Tables.{IsBytes, identity_at}
use Rattle.mf_field.proofs.FieldLaws.{times-zero, zero-times, times-one, one-times}
use Rattle.mf_field.proofs.SumLaws.{sum_below-single}
use Rattle.mf_matrix.proofs.Steps.{chosen-same, chosen-other}

pub identity_at-same : (i j : ℕ) → i ≡ j → identity_at i j ≡ 1
identity_at-same i j e = chosen-same i j 1 0 e

pub identity_at-other : (i j : ℕ) → i ≢ j → identity_at i j ≡ 0
identity_at-other i j d = chosen-other i j 1 0 d

pub identity_at-lt : (i j : ℕ) → identity_at i j < 256
identity_at-lt i j = elim (eqb_tells i j) [
  | inl t ↦ subst (λ v. v < 256) (sym (identity_at-same i j t.1)) (omega arith)
  | inr o ↦ subst (λ v. v < 256) (sym (identity_at-other i j o.1)) (omega arith)
]

-- row i of the identity, weighted
pub identity_sum : (n i : ℕ) (r x : ℕ → ℕ) → i < n → IsBytes x → ((j : ℕ) → j < n → r j ≡ identity_at i j)
    → sum_below n (λ j. times (r j) (x j)) ≡ x i
identity_sum n i r x lt lx h =
    sum_below-single n i (λ j. times (r j) (x j)) lt
    (λ j l d. ap (λ v. times v (x j)) (h j l ∙ identity_at-other i j (λ e. d (sym e))) ∙ zero-times (x j))
    ∙ ap (λ v. times v (x i)) (h i lt ∙ identity_at-same i i refl) ∙ one-times (x i) (lx i)

-- a row weighted by column k of the identity
pub sum_identity : (n k : ℕ) (r x : ℕ → ℕ) → k < n → IsBytes r → ((j : ℕ) → j < n → x j ≡ identity_at j k)
    → sum_below n (λ j. times (r j) (x j)) ≡ r k
sum_identity n k r x lt lr h =
    sum_below-single n k (λ j. times (r j) (x j)) lt
    (λ j l d. ap (times (r j)) (h j l ∙ identity_at-other j k d) ∙ times-zero (r j))
    ∙ ap (times (r k)) (h k lt ∙ identity_at-same k k refl) ∙ times-one (r k) (lr k)

-- the list that is x below n and y from n on
unfoldable pub joined : ℕ → (ℕ → ℕ) → (ℕ → ℕ) → ℕ → ℕ
joined n x y j = cond (ltb j n) (x j) (y (j - n))

pub joined-low : (n : ℕ) (x y : ℕ → ℕ) (j : ℕ) → j < n → joined n x y j ≡ x j
unfolding joined
joined-low n x y j lt = grind (arith, nat_tests)

pub joined-high : (n : ℕ) (x y : ℕ → ℕ) (j : ℕ) → joined n x y (n + j) ≡ y j
unfolding joined
joined-high n x y j =
    (let t : cond (ltb (n + j) n) (x (n + j)) (y (n + j - n)) ≡ y (n + j - n) = grind (arith, nat_tests) in t)
    ∙ ap y (let e : n + j - n ≡ j = omega arith in e)

pub joined-lt : (n : ℕ) (x y : ℕ → ℕ) → IsBytes x → IsBytes y → IsBytes (joined n x y)
joined-lt n x y lx ly j = elim (cases_lt j n) [
  | inl low ↦ subst (λ v. v < 256) (sym (joined-low n x y j low)) (lx j)
  | inr high ↦ subst (λ (m : ℕ). joined n x y m < 256) (let e : n + (j - n) ≡ j = omega arith in e)
      (subst (λ v. v < 256) (sym (joined-high n x y (j - n))) (ly (j - n)))
]

-- an equation at joined values: what x and what y make of it
pub sum_joined : (n : ℕ) (r x y : ℕ → ℕ)
    → sum_below (n + n) (λ j. times (r j) (joined n x y j))
    ≡ bit_xor (sum_below n (λ j. times (r j) (x j))) (sum_below n (λ j. times (r (n + j)) (y j)))
sum_joined n r x y =
    sum_below-add n n (λ j. times (r j) (joined n x y j))
    ∙ ap₂ bit_xor
    (sum_below-same n (λ j. times (r j) (joined n x y j)) (λ j. times (r j) (x j))
    (λ j lt. ap (times (r j)) (joined-low n x y j lt)))
    (sum_below-same n (λ j. times (r (n + j)) (joined n x y (n + j))) (λ j. times (r (n + j)) (y j))
    (λ j lt. ap (times (r (n + j))) (joined-high n x y j)))

-- a sum with a list that is zero after index c
pub sum_up_to : (n c : ℕ) (r x : ℕ → ℕ) → c < n → ((j : ℕ) → c < j → x j ≡ 0)
    → sum_below n (λ j. times (r j) (x j)) ≡ bit_xor (sum_below c (λ j. times (r j) (x j))) (times (r c) (x c))
sum_up_to n c r x lt h =
    ap (λ (m : ℕ). sum_below m (λ j. times (r j) (x j))) (let e : n ≡ c + (n - c) = omega arith in e)
    ∙ sum_below-add c (n - c) (λ j. times (r j) (x j))
    ∙ ap (bit_xor (sum_below c (λ j. times (r j) (x j))))
    (sum_below-single (n - c) 0 (λ j. times (r (c + j)) (x (c + j))) (omega arith)
    (λ j l d. ap (times (r (c + j))) (h (c + j) (omega arith)) ∙ times-zero (r (c + j)))
    ∙ ap (λ (m : ℕ). times (r m) (x m)) (add-zero c))

-- a list made from a function, one element longer
pub list_of-more : (n : ℕ) (f : ℕ → ℕ) → list_of (n + 1) f ≡ list_of n f ++ f n ∷ []
list_of-more n f = sym (list_of_from (n + 1) f (list_of n f ++ f n ∷ [])
    (length_push (list_of n f) (f n) ∙ ap (λ (m : ℕ). m + 1) (length-list_of n f))
    (λ x lt. elim (cases_lt x n) [
      | inl below ↦ get_or_append_left (list_of n f) (f n ∷ []) 0 x
          (subst (λ m. x < m) (sym (length-list_of n f)) below) ∙ list_of_at n f x below
      | inr le ↦
          let e : n ≡ x = omega arith in
          get_or_push (list_of n f) (f n) 0 x (length-list_of n f ∙ e) ∙ ap f e
    ]))

-- one row more of a table that stands row by row
pub cells_more : (xs row : List ℕ) (i n : ℕ) (t : ℕ → ℕ → ℕ) → length xs ≡ i * n → length row ≡ n
    → ((a b : ℕ) → a < i → b < n → get_or xs (a * n + b) 0 ≡ t a b) → ((b : ℕ) → b < n → get_or row b 0 ≡ t i b)
    → (a b : ℕ) → a < i + 1 → b < n → get_or (xs ++ row) (a * n + b) 0 ≡ t a b
cells_more xs row i n t len row_len before last a b la lb = elim (cases_lt a i) [
  | inl below ↦ get_or_append_left xs row 0 (a * n + b)
      (subst (λ m. a * n + b < m) (sym len) (subst (λ m. a * n + b < m) (mul_comm n i) (mul-add-lt a n b i below lb)))
      ∙ before a b below lb
  | inr le ↦
      let here : i ≡ a = omega arith in
      ap (λ m. get_or (xs ++ row) (m * n + b) 0) (sym here) ∙ ap (λ m. get_or (xs ++ row) (m + b) 0) (sym len)
      ∙ get_or-append-add xs row b 0 ∙ last b lb ∙ ap (λ m. t m b) here
]
