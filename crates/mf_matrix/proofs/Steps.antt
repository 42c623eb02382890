-- The steps of the elimination keep the solutions.
use Rattle.std.proofs.Common.{◌≡◌, ◌≢◌, ℕ, ◌<◌, inl, inr, cond, eqb, bit_xor, sym, ap, ap₂, ◌∙◌}
use Rattle.std.specs.Int.Bits.{xor_zero_r}
use Rattle.std.proofs.lemmas.Bool.Decides.{eqb_tells}
use Rattle.mf_code.specs.Field.{times}
use Rattle.mf_code.specs.Sums.{sum_below}
use Rattle.mf_code.proofs.Sums.{sum_below-same, sum_below-lt}
use Rattle.mf_matrix.specs.Tables.{IsTable, IsBytes}
use Rattle.mf_matrix.specs.Elimination.{SameSolutions, AddsTimes, Scales}
use Rattle.mf_field.proofs.FieldLaws.{times-lt, times_assoc, times-zero, one-times}
use Rattle.mf_matrix.proofs.Linear.{weighted-combination, weighted-multiple}

-- what a choice by `==` is, at one number and at two
pub chosen-same : (k i : ℕ) (x y : ℕ) → k ≡ i → cond (eqb k i) x y ≡ x
chosen-same k i x y e = elim (eqb_tells k i) [ inl t ↦ ap (λ b. cond b x y) t.0 | inr f ↦ absurd (f.1 e) ]

pub chosen-other : (k i : ℕ) (x y : ℕ) → k ≢ i → cond (eqb k i) x y ≡ y
chosen-other k i x y d = elim (eqb_tells k i) [ inl t ↦ absurd (d t.1) | inr f ↦ ap (λ b. cond b x y) f.0 ]

-- an equation that stays has the sum that it had
same_sum : (m : ℕ) (a b z : ℕ → ℕ) → ((j : ℕ) → j < m → b j ≡ a j) → sum_below m (λ j. times (b j) (z j))
    ≡ sum_below m (λ j. times (a j) (z j))
same_sum m a b z h = sum_below-same m (λ j. times (b j) (z j)) (λ j. times (a j) (z j))
    (λ j lt. ap (λ v. times v (z j)) (h j lt))

module _ (n m i f p : ℕ) (old new : ℕ → ℕ → ℕ) (lf : f < 256) (bytes : IsTable old) where
  -- the sum of an equation to which f times another was added
  added_sum : AddsTimes m old new i f p → (z : ℕ → ℕ) → IsBytes z
      → sum_below m (λ j. times (new i j) (z j)) ≡ bit_xor (sum_below m (λ j. times (old i j) (z j)))
      (times f (sum_below m (λ j. times (old p j) (z j))))
  added_sum adds z lz =
      same_sum m (λ j. bit_xor (old i j) (times f (old p j))) (new i) z adds.here
      ∙ weighted-combination m f (old i) (old p) z lf (bytes p) lz

  other_sum : AddsTimes m old new i f p → (z : ℕ → ℕ) (k : ℕ) → k ≢ i
      → sum_below m (λ j. times (new k j) (z j)) ≡ sum_below m (λ j. times (old k j) (z j))
  other_sum adds z k d = same_sum m (old k) (new k) z (λ j lt. adds.elsewhere k j d)

  -- adding a multiple of another equation keeps the solutions
  pub SameSolutions-adds : AddsTimes m old new i f p → i ≢ p → p < n → SameSolutions n m old new
  SameSolutions-adds adds apart lp = record {
    kept = λ z lz solves k lt. elim (eqb_tells k i) [
      | inl t ↦ ap (λ r. sum_below m (λ j. times (new r j) (z j))) t.1 ∙ added_sum adds z lz
          ∙ ap₂ (λ u v. bit_xor u (times f v))
          (ap (λ r. sum_below m (λ j. times (old r j) (z j))) (sym t.1) ∙ solves k lt) (solves p lp)
          ∙ ap (bit_xor 0) (times-zero f)
      | inr o ↦ other_sum adds z k o.1 ∙ solves k lt
    ];
    none_added = λ z lz solves k lt. elim (eqb_tells k i) [
      | inl t ↦ sym (xor_zero_r _)
          ∙ ap (bit_xor (sum_below m (λ j. times (old k j) (z j))))
          (sym (times-zero f) ∙ ap (times f) (sym (solves p lp) ∙ other_sum adds z p (λ e. apart (sym e))))
          ∙ ap (λ r. bit_xor (sum_below m (λ j. times (old r j) (z j)))
          (times f (sum_below m (λ j. times (old p j) (z j))))) t.1
          ∙ sym (added_sum adds z lz)
          ∙ ap (λ r. sum_below m (λ j. times (new r j) (z j))) (sym t.1)
          ∙ solves k lt
      | inr o ↦ sym (other_sum adds z k o.1) ∙ solves k lt
    ];
  }

module _ (n m i f g : ℕ) (old new : ℕ → ℕ → ℕ) (lf : f < 256) (lg : g < 256) (bytes : IsTable old) where
  scaled_sum : Scales m old new i f → (z : ℕ → ℕ) → IsBytes z
      → sum_below m (λ j. times (new i j) (z j)) ≡ times f (sum_below m (λ j. times (old i j) (z j)))
  scaled_sum scales z lz =
      same_sum m (λ j. times f (old i j)) (new i) z scales.here
      ∙ weighted-multiple m f (old i) z lf (bytes i) lz

  unscaled_sum : Scales m old new i f → (z : ℕ → ℕ) (k : ℕ) → k ≢ i
      → sum_below m (λ j. times (new k j) (z j)) ≡ sum_below m (λ j. times (old k j) (z j))
  unscaled_sum scales z k d = same_sum m (old k) (new k) z (λ j lt. scales.elsewhere k j d)

  -- multiplying an equation by a number that has an inverse keeps the solutions
  pub SameSolutions-scales : Scales m old new i f → times g f ≡ 1 → SameSolutions n m old new
  SameSolutions-scales scales inverse = record {
    kept = λ z lz solves k lt. elim (eqb_tells k i) [
      | inl t ↦ ap (λ r. sum_below m (λ j. times (new r j) (z j))) t.1 ∙ scaled_sum scales z lz
          ∙ ap (times f) (ap (λ r. sum_below m (λ j. times (old r j) (z j))) (sym t.1) ∙ solves k lt)
          ∙ times-zero f
      | inr o ↦ unscaled_sum scales z k o.1 ∙ solves k lt
    ];
    none_added = λ z lz solves k lt. elim (eqb_tells k i) [
      | inl t ↦ ap (λ r. sum_below m (λ j. times (old r j) (z j))) t.1
          ∙ undone (sum_below m (λ j. times (old i j) (z j))) (sum_lt z lz)
          (sym (scaled_sum scales z lz) ∙ ap (λ r. sum_below m (λ j. times (new r j) (z j))) (sym t.1) ∙ solves k lt)
      | inr o ↦ sym (unscaled_sum scales z k o.1) ∙ solves k lt
    ];
  }
    where
      undone : (s : ℕ) → s < 256 → times f s ≡ 0 → s ≡ 0
      undone s ls e =
          sym (one-times s ls) ∙ ap (λ v. times v s) (sym inverse) ∙ times_assoc g f s lg lf ls ∙ ap (times g) e
          ∙ times-zero g

      sum_lt : (z : ℕ → ℕ) → IsBytes z → sum_below m (λ j. times (old i j) (z j)) < 256
      sum_lt z lz = sum_below-lt m (λ j. times (old i j) (z j)) (λ j lt. times-lt (old i j) (z j) (bytes i j) (lz j))

-- systems with the same solutions, one after the other
pub SameSolutions-trans : (n m : ℕ) (a b c : ℕ → ℕ → ℕ) → SameSolutions n m a b → SameSolutions n m b c
    → SameSolutions n m a c
SameSolutions-trans n m a b c ab bc = record {
  kept = λ z lz s. bc.kept z lz (ab.kept z lz s);
  none_added = λ z lz s. ab.none_added z lz (bc.none_added z lz s);
}
