-- A system that is solved for the unknowns below c, and has no unknown c after that, shows the kernel list in column c.
use Rattle.std.proofs.Common.{◌≡◌, ℕ, ◌<◌, ◌≤◌, inl, inr, Bool, true, false, cond, ltb, eqb, List, length, get_or}
use Rattle.std.proofs.Common.{bit_xor, refl, sym, ap, ap₂, subst, ◌∙◌, arith}
use Rattle.std.proofs.lemmas.Bool.{cases_lt}
use Rattle.std.proofs.lemmas.Bool.Decides.{nat_tests}
use Rattle.std.proofs.lemmas.List.{ext_get_or, get_or_past}
use Rattle.std.proofs.Math.Nat.{eq-or-lt_of_le}
use Rattle.mf_lemmas.proofs.Numbers.{equal_from_sum, sum_from_equal}
use Rattle.mf_code.specs.Field.{times}
use Rattle.mf_code.specs.Sums.{sum_below}
use Rattle.mf_code.proofs.Sums.{sum_below-same, sum_below-zero}
use Rattle.mf_matrix.specs.Tables.{IsTable, IsBytes, identity_at, HasInverse, SendsToZero, DependsOnEarlier}
use Rattle.mf_matrix.specs.Tables.{IsFirstDependent, IsKernel, IsSingular}
use Rattle.mf_matrix.specs.Elimination.{SameSolutions, IsSolvedBelow, IsSystemOf, IsStuckAt, IsLeading, shown_at}
use Rattle.mf_code.specs.Rows.{list_of}
use Rattle.mf_code.proofs.Lists.{length-list_of, list_of_at}
use Rattle.mf_field.proofs.FieldLaws.{times-lt, times_comm, times_assoc, times-zero, zero-times, times-one, one-times}
use Rattle.mf_matrix.proofs.Sums.{identity_at-lt, identity_at-other, identity_sum, sum_up_to}
use Rattle.mf_matrix.proofs.Inverses.{solves_left, left_solved, zero_from_inverse}

-- a number is not both one and zero
one_or_zero : (v : ℕ) → v ≡ 1 → v ≡ 0 → ⊥
one_or_zero v one none = omega arith

-- the list w, ended by a one at index d
unfoldable pub ended : ℕ → (ℕ → ℕ) → ℕ → ℕ
ended d w j = cond (ltb j d) (w j) (identity_at j d)

ended-before : (d : ℕ) (w : ℕ → ℕ) (j : ℕ) → j < d → ended d w j ≡ w j
unfolding ended
ended-before d w j lt = grind (arith, nat_tests)

ended-at : (d : ℕ) (w : ℕ → ℕ) → ended d w d ≡ 1
unfolding ended
ended-at d w = grind (arith, nat_tests)

ended-after : (d : ℕ) (w : ℕ → ℕ) (j : ℕ) → d < j → ended d w j ≡ 0
unfolding ended
ended-after d w j lt = grind (arith, nat_tests)

ended-lt : (d : ℕ) (w : ℕ → ℕ) → IsBytes w → IsBytes (ended d w)
unfolding ended
ended-lt d w lw j = choice (ltb j d)
  where
    choice : (b : Bool) → cond b (w j) (identity_at j d) < 256
    choice true = lw j
    choice false = identity_at-lt j d

-- the list that a column shows, before, at and after the column's number
shown-before : (e : ℕ → ℕ → ℕ) (c f i : ℕ) → i < c → shown_at e c f i ≡ times f (e i c)
shown-before e c f i lt = grind (arith, nat_tests)

shown-at : (e : ℕ → ℕ → ℕ) (c f : ℕ) → shown_at e c f c ≡ f
shown-at e c f = grind (arith, nat_tests)

shown-after : (e : ℕ → ℕ → ℕ) (c f i : ℕ) → c < i → shown_at e c f i ≡ 0
shown-after e c f i lt = grind (arith, nat_tests)

shown-lt : (e : ℕ → ℕ → ℕ) (c f i : ℕ) → f < 256 → e i c < 256 → shown_at e c f i < 256
shown-lt e c f i lf le = choice (ltb i c) (eqb i c)
  where
    choice : (b d : Bool) → cond b (times f (e i c)) (cond d f 0) < 256
    choice true d = times-lt f (e i c) lf le
    choice false true = lf
    choice false false = omega arith

module _ (n c : ℕ) (a init e : ℕ → ℕ → ℕ) (within : c < n) (bytes_a : IsTable a)
    (system : IsSystemOf n a init) (same : SameSolutions n n init e) (solved : IsSolvedBelow n e c)
    (stuck : IsStuckAt n e c) where
  -- equation i at a list that is zero after c, above row c and from it on
  sum_above : (x : ℕ → ℕ) (i : ℕ) → IsBytes x → ((j : ℕ) → c < j → x j ≡ 0) → i < c
      → sum_below n (λ j. times (e i j) (x j)) ≡ bit_xor (x i) (times (e i c) (x c))
  sum_above x i lx zero lt =
      sum_up_to n c (e i) x within zero
      ∙ ap (λ s. bit_xor s (times (e i c) (x c)))
      (identity_sum c i (e i) x lt lx (λ j l. solved.units i j (omega arith) l))

  sum_under : (x : ℕ → ℕ) (i : ℕ) → ((j : ℕ) → c < j → x j ≡ 0) → c ≤ i → i < n
      → sum_below n (λ j. times (e i j) (x j)) ≡ 0
  sum_under x i zero le lt =
      sum_up_to n c (e i) x within zero
      ∙ ap₂ bit_xor
      (sum_below-zero c (λ j. times (e i j) (x j))
      (λ j l. ap (λ v. times v (x j)) (solved.units i j lt l ∙ identity_at-other i j (omega arith))
      ∙ zero-times (x j)))
      (ap (λ v. times v (x c)) (stuck i le lt) ∙ zero-times (x c))

  -- a list that ends at c and that a sends to zero has, before c, its entry at c times column c
  pub before_from_zero : (x : ℕ → ℕ) → IsBytes x → ((j : ℕ) → c < j → x j ≡ 0) → SendsToZero n a x → (i : ℕ) → i < c
      → x i ≡ times (e i c) (x c)
  before_from_zero x lx zero to_zero i lt =
      equal_from_sum (x i) (times (e i c) (x c))
      (sym (sum_above x i lx zero lt) ∙ same.kept x lx (solves_left n a init x system to_zero) i (omega arith))

  -- and a list of that form is sent to zero
  pub zero_from_before : (x : ℕ → ℕ) → IsBytes x → ((j : ℕ) → c < j → x j ≡ 0)
      → ((i : ℕ) → i < c → x i ≡ times (e i c) (x c)) → SendsToZero n a x
  zero_from_before x lx zero before =
      left_solved n a init x system
      (same.none_added x lx
      (λ i lt. elim (cases_lt i c) [
        | inl above ↦ sum_above x i lx zero above ∙ sum_from_equal (x i) (times (e i c) (x c)) (before i above)
        | inr under ↦ sum_under x i zero under lt
      ]))

  -- column c depends on the columns before it
  depends : DependsOnEarlier n a c
  depends =
      let w : ℕ → ℕ = λ j. e j c in
      let x : ℕ → ℕ = ended c w in
      let lx : IsBytes x = ended-lt c w (λ j. solved.bytes j c) in (
        w,
        λ j. solved.bytes j c,
        λ i lt. sym (equal_from_sum _ _
            (ap₂ bit_xor
            (sum_below-same c (λ j. times (a i j) (w j)) (λ j. times (a i j) (x j))
            (λ j l. ap (times (a i j)) (sym (ended-before c w j l))))
            (sym (ap (times (a i c)) (ended-at c w) ∙ times-one (a i c) (bytes_a i c)))
            ∙ sym (sum_up_to n c (a i) x within (ended-after c w))
            ∙ zero_from_before x lx (ended-after c w)
            (λ j l. ended-before c w j l
            ∙ sym (ap (times (e j c)) (ended-at c w) ∙ times-one (e j c) (solved.bytes j c)))
            i lt)),
      )

  -- and no earlier column depends on those before it
  independent : (d : ℕ) → d < c → DependsOnEarlier n a d → ⊥
  independent d lt (w, lw, dep) =
      let x : ℕ → ℕ = ended d w in
      let lx : IsBytes x = ended-lt d w lw in
      let to_zero : SendsToZero n a x = λ i li.
      sum_up_to n d (a i) x (omega arith) (ended-after d w)
      ∙ ap₂ bit_xor
      (sum_below-same d (λ j. times (a i j) (x j)) (λ j. times (a i j) (w j))
      (λ j l. ap (times (a i j)) (ended-before d w j l)) ∙ sym (dep i li))
      (ap (times (a i d)) (ended-at d w) ∙ times-one (a i d) (bytes_a i d))
      ∙ sum_from_equal (a i d) (a i d) refl in
      one_or_zero (x d) (ended-at d w)
      (before_from_zero x lx (λ j l. ended-after d w j (omega arith)) to_zero d lt
      ∙ ap (times (e d c)) (ended-after d w c lt) ∙ times-zero (e d c))

  pub IsFirstDependent-stuck : IsFirstDependent n a c
  IsFirstDependent-stuck = record { within = within; depends = depends; first = independent }

  -- of two lists that end at c and are sent to zero, the second is its entry times the first one, where the first is
  -- one
  proportional : (x y : ℕ → ℕ) → IsBytes x → IsBytes y → ((j : ℕ) → c < j → x j ≡ 0) → ((j : ℕ) → c < j → y j ≡ 0)
      → SendsToZero n a x → SendsToZero n a y → (j i : ℕ) → x j ≡ 1 → y i ≡ times (y j) (x i)
  proportional x y lx ly zx zy tx ty j i one =
      let form : (z : ℕ → ℕ) → IsBytes z → ((k : ℕ) → c < k → z k ≡ 0) → SendsToZero n a z → (k : ℕ)
      → z k ≡ times (ended c (λ m. e m c) k) (z c) =
      λ z lz zz tz k. form_at z lz zz tz k in
      let u : ℕ → ℕ = ended c (λ m. e m c) in
      let lu : IsBytes u = ended-lt c (λ m. e m c) (λ m. solved.bytes m c) in
      exchange (u i) (u j) (x c) (y c) (x i) (x j) (y i) (y j) (lu i) (lu j) (lx c) (ly c)
      (form x lx zx tx i) (form x lx zx tx j) (form y ly zy ty i) (form y ly zy ty j) one
    where
      form_at : (z : ℕ → ℕ) → IsBytes z → ((k : ℕ) → c < k → z k ≡ 0) → SendsToZero n a z → (k : ℕ)
          → z k ≡ times (ended c (λ m. e m c) k) (z c)
      form_at z lz zz tz k = elim (cases_lt k c) [
        | inl below ↦ before_from_zero z lz zz tz k below
            ∙ ap (λ v. times v (z c)) (sym (ended-before c (λ m. e m c) k below))
        | inr le ↦ elim (eq-or-lt_of_le le) [
          | inl here ↦ ap z (sym here) ∙ sym (one-times (z c) (lz c))
              ∙ ap (λ v. times v (z c)) (sym (ended-at c (λ m. e m c)) ∙ ap (ended c (λ m. e m c)) here)
          | inr after ↦ zz k after ∙ sym (zero-times (z c))
              ∙ ap (λ v. times v (z c)) (sym (ended-after c (λ m. e m c) k after))
        ]
      ]

      -- ui g = (uj g) (ui f), where uj f = 1
      exchange : (ui uj f g xi xj yi yj : ℕ) → ui < 256 → uj < 256 → f < 256 → g < 256
          → xi ≡ times ui f → xj ≡ times uj f → yi ≡ times ui g → yj ≡ times uj g → xj ≡ 1 → yi ≡ times yj xi
      exchange ui uj f g xi xj yi yj lui luj lf lg ei ej di dj one =
          di
          ∙ sym (times-one (times ui g) (times-lt ui g lui lg)) ∙ ap (times (times ui g)) (sym one ∙ ej)
          ∙ times_comm (times ui g) (times uj f) (times-lt ui g lui lg) (times-lt uj f luj lf)
          ∙ times_assoc uj f (times ui g) luj lf (times-lt ui g lui lg)
          ∙ ap (times uj) (sym (times_assoc f ui g lf lui lg) ∙ times_comm (times f ui) g (times-lt f ui lf lui) lg
          ∙ ap (times g) (times_comm f ui lf lui))
          ∙ sym (times_assoc uj g (times ui f) luj lg (times-lt ui f lui lf))
          ∙ ap₂ times (sym dj) (sym ei)

  -- the kernel list of a ends at c
  ends : (x : List ℕ) → IsKernel n a x → (j : ℕ) → c < j → get_or x j 0 ≡ 0
  ends x k j lt =
      let d = k.zero_after.0 in
      let dep : IsFirstDependent n a d = k.zero_after.1 in
      elim (cases_lt d c) [
        | inl low ↦ absurd (independent d low dep.depends)
        | inr le ↦ elim (eq-or-lt_of_le le) [
          | inl here ↦ k.zero_after.2 j (subst (λ m. m < j) here lt)
          | inr high ↦ absurd (dep.first c high depends)
        ]
      ]

  -- there is one kernel list alone
  pub IsKernel-unique : (x y : List ℕ) → IsKernel n a x → IsKernel n a y → y ≡ x
  IsKernel-unique x y kx ky =
      let (j, xj, x_before) = kx.begins_with_one in
      let (k, yk, y_before) = ky.begins_with_one in
      let y_of_x : (i : ℕ) → get_or y i 0 ≡ times (get_or y j 0) (get_or x i 0) =
      λ i. proportional (λ m. get_or x m 0) (λ m. get_or y m 0) kx.bytes ky.bytes (ends x kx) (ends y ky) kx.to_zero
      ky.to_zero j i xj in
      let x_of_y : (i : ℕ) → get_or x i 0 ≡ times (get_or x k 0) (get_or y i 0) =
      λ i. proportional (λ m. get_or y m 0) (λ m. get_or x m 0) ky.bytes kx.bytes (ends y ky) (ends x kx) ky.to_zero
      kx.to_zero k i yk in
      let not_before : k < j → ⊥ = λ lt.
      one_or_zero (get_or x j 0) xj
      (x_of_y j ∙ ap (λ v. times v (get_or y j 0)) (x_before k lt) ∙ zero-times (get_or y j 0)) in
      let not_after : j < k → ⊥ = λ lt.
      one_or_zero (get_or y k 0) yk
      (y_of_x k ∙ ap (λ v. times v (get_or x k 0)) (y_before j lt) ∙ zero-times (get_or x k 0)) in
      let one : get_or y j 0 ≡ 1 = elim (cases_lt j k) [
        | inl lt ↦ absurd (not_after lt)
        | inr le ↦ elim (eq-or-lt_of_le le)
            [ inl same ↦ ap (λ m. get_or y m 0) (sym same) ∙ yk | inr lt ↦ absurd (not_before lt) ]
      ] in
      ext_get_or 0 y x (ky.len ∙ sym kx.len)
      (λ i lt. y_of_x i ∙ ap (λ v. times v (get_or x i 0)) one ∙ one-times (get_or x i 0) (kx.bytes i))

  -- the list that column c shows, times a number that makes its first entry one, is the kernel list
  pub IsKernel-shown : (v f : ℕ) (x : List ℕ) → IsLeading e c v → times v f ≡ 1 → f < 256
      → x ≡ list_of n (shown_at e c f) → IsKernel n a x
  IsKernel-shown v f x leading inverse lf is =
      let len : length x ≡ n = ap length is ∙ length-list_of n (shown_at e c f) in
      let at : (i : ℕ) → i < n → get_or x i 0 ≡ shown_at e c f i = λ i lt. ap (λ l. get_or l i 0) is
      ∙ list_of_at n (shown_at e c f) i lt in
      let bytes : IsBytes (λ j. get_or x j 0) = λ j. elim (cases_lt j n) [
        | inl lt ↦ subst (λ s. s < 256) (sym (at j lt)) (shown-lt e c f j lf (solved.bytes j c))
        | inr past ↦ subst (λ s. s < 256) (sym (get_or_past x j 0 (subst (λ m. m ≤ j) (sym len) past))) (omega arith)
      ] in
      let after : (j : ℕ) → c < j → get_or x j 0 ≡ 0 = λ j lt. elim (cases_lt j n) [
        | inl inside ↦ at j inside ∙ shown-after e c f j lt
        | inr past ↦ get_or_past x j 0 (subst (λ m. m ≤ j) (sym len) past)
      ] in
      let before : (i : ℕ) → i < c → get_or x i 0 ≡ times f (e i c) = λ i lt. at i (omega arith)
      ∙ shown-before e c f i lt in
      let end : get_or x c 0 ≡ f = at c within ∙ shown-at e c f in
      record {
        len = len;
        bytes = bytes;
        to_zero = zero_from_before (λ j. get_or x j 0) bytes after
            (λ i lt. before i lt ∙ times_comm f (e i c) lf (solved.bytes i c) ∙ ap (times (e i c)) (sym end));
        zero_after = (c, IsFirstDependent-stuck, after);
        begins_with_one = elim leading [
          | inl l ↦ (
            l.0,
            before l.0 l.1 ∙ ap (times f) l.2 ∙ times_comm f v lf (subst (λ s. s < 256) l.2 (solved.bytes l.0 c))
                ∙ inverse,
            λ k lt. before k (omega arith) ∙ ap (times f) (l.4 k lt) ∙ times-zero f,
          )
          | inr l ↦ (
            c,
            end ∙ sym (one-times f lf) ∙ ap (λ s. times s f) (sym l.0) ∙ inverse,
            λ k lt. before k lt ∙ ap (times f) (l.1 k lt) ∙ times-zero f,
          )
        ];
      }

-- a table with a kernel list has no inverse
pub no_inverse : (n : ℕ) (a : ℕ → ℕ → ℕ) (x : List ℕ) → IsTable a → IsKernel n a x → HasInverse n a → ⊥
no_inverse n a x la k (b, inverse) =
    let (j, one, before) = k.begins_with_one in
    elim (cases_lt j n) [
      | inl lt ↦ one_or_zero (get_or x j 0) one
          (zero_from_inverse n a b (λ m. get_or x m 0) la inverse.bytes k.bytes inverse.on_the_left k.to_zero j lt)
      | inr past ↦ one_or_zero (get_or x j 0) one (get_or_past x j 0 (subst (λ m. m ≤ j) (sym k.len) past))
    ]

-- what a system that can't be solved for the unknown c says of its matrix
pub stuck_system : (n columns c : ℕ) (a init e : ℕ → ℕ → ℕ) → n ≡ columns → c < n → IsTable a
    → IsSystemOf columns a init → SameSolutions n n init e
    → IsSolvedBelow n e c → IsStuckAt n e c
    → (v f : ℕ) (x : List ℕ) → IsLeading e c v → times v f ≡ 1 → f < 256 → x ≡ list_of n (shown_at e c f)
    → IsSingular columns a x
stuck_system n columns c a init e size within bytes_a system same solved stuck v f x leading inverse lf is =
    let at_n : IsSystemOf n a init = subst (λ m. IsSystemOf m a init) (sym size) system in
    let k : IsKernel n a x = IsKernel-shown n c a init e within bytes_a at_n same solved stuck v f x leading inverse lf
    is in
    let whole : IsSingular n a x = (
      k,
      λ y ky. IsKernel-unique n c a init e within bytes_a at_n same solved stuck x y k ky,
      no_inverse n a x bytes_a k,
    ) in
    subst (λ m. IsSingular m a x) size whole
