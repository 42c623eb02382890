-- A system solved for each unknown has the inverse on its right side.
use Rattle.std.proofs.Common.{◌≡◌, ℕ, ◌+◌, ◌<◌, bit_xor, refl, sym, ap, ap₂, subst, ◌∙◌, arith}
use Rattle.std.specs.Int.Bits.{xor_zero_r}
use Rattle.mf_lemmas.proofs.Numbers.{equal_from_sum, sum_from_equal}
use Rattle.mf_code.specs.Field.{times}
use Rattle.mf_code.specs.Sums.{sum_below}
use Rattle.mf_code.proofs.Sums.{sum_below-same, sum_below-zero}
use Rattle.mf_matrix.specs.Tables.{IsTable, IsBytes, identity_at, product_at, GivesIdentity, IsInverse, SendsToZero}
use Rattle.mf_matrix.specs.Tables.{OnlyZero}
use Rattle.mf_matrix.specs.Elimination.{Solves, SameSolutions, IsSolvedBelow, IsSystemOf}
use Rattle.mf_field.proofs.FieldLaws.{times-zero}
use Rattle.mf_matrix.proofs.Linear.{product-applied}
use Rattle.mf_matrix.proofs.Sums.{identity_at-lt, identity_sum, sum_identity, joined, joined-lt, sum_joined}

-- the values x and y solve the system of a where a x = y
pub solves_system : (n : ℕ) (a e : ℕ → ℕ → ℕ) (x y : ℕ → ℕ) → IsSystemOf n a e → IsBytes y
    → ((i : ℕ) → i < n → sum_below n (λ j. times (a i j) (x j)) ≡ y i) → Solves n (n + n) e (joined n x y)
solves_system n a e x y system ly h i lt =
    sum_joined n (e i) x y
    ∙ ap₂ bit_xor
    (sum_below-same n (λ j. times (e i j) (x j)) (λ j. times (a i j) (x j))
    (λ j l. ap (λ v. times v (x j)) (system.left i j lt l)) ∙ h i lt)
    (identity_sum n i (λ j. e i (n + j)) y lt ly (λ j l. system.right i j lt l))
    ∙ sum_from_equal (y i) (y i) refl

pub system_solved : (n : ℕ) (a e : ℕ → ℕ → ℕ) (x y : ℕ → ℕ) → IsSystemOf n a e → IsBytes y
    → Solves n (n + n) e (joined n x y) → (i : ℕ) → i < n → sum_below n (λ j. times (a i j) (x j)) ≡ y i
system_solved n a e x y system ly solves i lt =
    equal_from_sum (sum_below n (λ j. times (a i j) (x j))) (y i)
    (ap₂ bit_xor
    (sym (sum_below-same n (λ j. times (e i j) (x j)) (λ j. times (a i j) (x j))
    (λ j l. ap (λ v. times v (x j)) (system.left i j lt l))))
    (sym (identity_sum n i (λ j. e i (n + j)) y lt ly (λ j l. system.right i j lt l)))
    ∙ sym (sum_joined n (e i) x y) ∙ solves i lt)

-- the left side of the system of a is a
pub solves_left : (n : ℕ) (a e : ℕ → ℕ → ℕ) (x : ℕ → ℕ) → IsSystemOf n a e → SendsToZero n a x → Solves n n e x
solves_left n a e x system to_zero i lt =
    sum_below-same n (λ j. times (e i j) (x j)) (λ j. times (a i j) (x j))
    (λ j l. ap (λ v. times v (x j)) (system.left i j lt l)) ∙ to_zero i lt

pub left_solved : (n : ℕ) (a e : ℕ → ℕ → ℕ) (x : ℕ → ℕ) → IsSystemOf n a e → Solves n n e x → SendsToZero n a x
left_solved n a e x system solves i lt =
    sym (sum_below-same n (λ j. times (e i j) (x j)) (λ j. times (a i j) (x j))
    (λ j l. ap (λ v. times v (x j)) (system.left i j lt l))) ∙ solves i lt

-- with zeros on the right side, an equation is its left side
left_alone : (n : ℕ) (e : ℕ → ℕ → ℕ) (x : ℕ → ℕ) (i : ℕ)
    → sum_below (n + n) (λ j. times (e i j) (joined n x (λ _. 0) j)) ≡ sum_below n (λ j. times (e i j) (x j))
left_alone n e x i =
    sum_joined n (e i) x (λ _. 0)
    ∙ ap (bit_xor (sum_below n (λ j. times (e i j) (x j))))
    (sum_below-zero n (λ j. times (e i (n + j)) 0) (λ j l. times-zero (e i (n + j))))
    ∙ xor_zero_r _

-- systems with the same solutions have left sides with the same solutions
pub same_left : (n : ℕ) (a b : ℕ → ℕ → ℕ) → SameSolutions n (n + n) a b → SameSolutions n n a b
same_left n a b same = record {
  kept = λ x lx solves. one_way a b same.kept x lx solves;
  none_added = λ x lx solves. one_way b a same.none_added x lx solves;
}
  where
    one_way : (a b : ℕ → ℕ → ℕ) → ((z : ℕ → ℕ) → IsBytes z → Solves n (n + n) a z → Solves n (n + n) b z) → (x : ℕ → ℕ)
        → IsBytes x → Solves n n a x → Solves n n b x
    one_way a b same x lx solves i lt =
        sym (left_alone n b x i)
        ∙ same (joined n x (λ _. 0)) (joined-lt n x (λ _. 0) lx (λ j. omega arith))
        (λ k l. left_alone n a x k ∙ solves k l) i lt

-- a system that is solved for each unknown says that its matrix sends only the zero list to zero
pub only_zero-solved : (n : ℕ) (a init e : ℕ → ℕ → ℕ) → IsSystemOf n a init → SameSolutions n n init e
    → IsSolvedBelow n e n → OnlyZero n a
only_zero-solved n a init e system same solved x lx to_zero i lt =
    sym (identity_sum n i (e i) x lt lx (λ j l. solved.units i j lt l))
    ∙ same.kept x lx (solves_left n a init x system to_zero) i lt

module _ (n : ℕ) (a init e : ℕ → ℕ → ℕ) (bytes_a : IsTable a)
    (system : IsSystemOf n a init) (same : SameSolutions n (n + n) init e) (solved : IsSolvedBelow n e n) where
  -- in the solved system x is the right side's table times y
  right_sum : (x y : ℕ → ℕ) (i : ℕ) → i < n → IsBytes x
      → sum_below (n + n) (λ j. times (e i j) (joined n x y j))
      ≡ bit_xor (x i) (sum_below n (λ j. times (e i (n + j)) (y j)))
  right_sum x y i lt lx =
      sum_joined n (e i) x y
      ∙ ap (λ s. bit_xor s (sum_below n (λ j. times (e i (n + j)) (y j))))
      (identity_sum n i (e i) x lt lx (λ j l. solved.units i j lt l))

  pub IsInverse-solved : IsInverse n a (λ i j. e i (n + j))
  IsInverse-solved = record {
    bytes = λ i j. solved.bytes i (n + j);
    on_the_right = λ i k li lk.
        let x : ℕ → ℕ = λ j. e j (n + k) in
        let y : ℕ → ℕ = λ j. identity_at j k in
        let ly : IsBytes y = λ j. identity_at-lt j k in
        system_solved n a init x y system ly
        (same.none_added (joined n x y) (joined-lt n x y (λ j. solved.bytes j (n + k)) ly)
        (λ m lm. right_sum x y m lm (λ j. solved.bytes j (n + k))
        ∙ sum_from_equal _ _ (sym
        (sum_identity n k (λ j. e m (n + j)) y lk (λ j. solved.bytes m (n + j)) (λ j l. refl)))))
        i li;
    on_the_left = λ i k li lk.
        let x : ℕ → ℕ = λ j. identity_at j k in
        let y : ℕ → ℕ = λ j. a j k in
        let lx : IsBytes x = λ j. identity_at-lt j k in
        sym (equal_from_sum _ _ (sym (right_sum x y i li lx)
        ∙ same.kept (joined n x y) (joined-lt n x y lx (λ j. bytes_a j k))
        (solves_system n a init x y system (λ j. bytes_a j k)
        (λ m lm. sum_identity n k (a m) x lk (bytes_a m) (λ j l. refl)))
        i li));
  }

-- a table with an inverse sends no other list to zero than zeros
pub zero_from_inverse : (n : ℕ) (a b : ℕ → ℕ → ℕ) (x : ℕ → ℕ) → IsTable a → IsTable b → IsBytes x → GivesIdentity n b a
    → SendsToZero n a x → (i : ℕ) → i < n → x i ≡ 0
zero_from_inverse n a b x la lb lx inverse to_zero i lt =
    sym (identity_sum n i (λ j. product_at n b a i j) x lt lx (λ j l. inverse i j lt l))
    ∙ product-applied n b a x i lb la lx
    ∙ sum_below-zero n (λ k. times (b i k) (sum_below n (λ j. times (a k j) (x j))))
    (λ k l. ap (times (b i k)) (to_zero k l) ∙ times-zero (b i k))

-- what a system that is solved for each unknown says of its matrix
pub solved_system : (n columns : ℕ) (a b init e : ℕ → ℕ → ℕ) → n ≡ columns → IsTable a → IsTable b
    → IsSystemOf columns a init → SameSolutions n (n + n) init e → IsSolvedBelow n e n
    → ((i j : ℕ) → i < n → j < n → b i j ≡ e i (n + j)) → IsInverse columns a b
solved_system n columns a b init e size bytes_a bytes_b system same solved is =
    let at_n : IsSystemOf n a init = subst (λ m. IsSystemOf m a init) (sym size) system in
    let inverse : IsInverse n a (λ i j. e i (n + j)) = IsInverse-solved n a init e bytes_a at_n same solved in
    let right : GivesIdentity n a b = λ i j li lj.
    sum_below-same n (λ k. times (a i k) (b k j)) (λ k. times (a i k) (e k (n + j)))
    (λ k lk. ap (times (a i k)) (is k j lk lj))
    ∙ inverse.on_the_right i j li lj in
    let left : GivesIdentity n b a = λ i j li lj.
    sum_below-same n (λ k. times (b i k) (a k j)) (λ k. times (e i (n + k)) (a k j))
    (λ k lk. ap (λ v. times v (a k j)) (is i k li lk))
    ∙ inverse.on_the_left i j li lj in
    subst (λ m. IsInverse m a b) size
    (let both : IsInverse n a b = record { bytes = bytes_b; on_the_right = right; on_the_left = left } in both)
