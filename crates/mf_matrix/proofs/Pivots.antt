-- Solving for one more unknown, step by step.
use Rattle.std.proofs.Common.{◌≡◌, ◌≢◌, ℕ, ◌+◌, ◌<◌, ◌≤◌, inl, inr, bit_xor, sym, ap, subst, ◌∙◌, arith}
use Rattle.std.specs.Int.Bits.{xor_zero_r, xor_zero_l, xor_self}
use Rattle.std.proofs.lemmas.Nat.{xor_lt}
use Rattle.std.proofs.lemmas.Bool.{cases_eq, cases_lt}
use Rattle.mf_code.specs.Field.{times}
use Rattle.mf_matrix.specs.Tables.{IsTable}
use Rattle.mf_matrix.specs.Elimination.{AddsTimes, Scales, IsSolvedBelow, IsCleared}
use Rattle.mf_field.proofs.FieldLaws.{times-lt, times-zero, times-one, one-times}
use Rattle.mf_matrix.proofs.Steps.{SameSolutions-adds, SameSolutions-trans}
use Rattle.mf_matrix.proofs.Sums.{identity_at-same, identity_at-other}

module _ (m : ℕ) (old new : ℕ → ℕ → ℕ) (i f p : ℕ) (adds : AddsTimes m old new i f p) where
  pub adds-bytes : f < 256 → IsTable old → IsTable new
  adds-bytes lf bytes k j = elim (cases_eq k i) [
    | inl here ↦ subst (λ r. new r j < 256) (sym here) (elim (cases_lt j m) [
      | inl lt ↦ subst (λ v. v < 256) (sym (adds.here j lt))
          (xor_lt 8 (old i j) (times f (old p j)) (bytes i j) (times-lt f (old p j) lf (bytes p j)))
      | inr past ↦ subst (λ v. v < 256) (sym (adds.beyond j past)) (bytes i j)
    ])
    | inr other ↦ subst (λ v. v < 256) (sym (adds.elsewhere k j other)) (bytes k j)
  ]

  -- a multiple of an equation of an unknown that isn't solved for changes nothing of what is solved
  pub adds-solved : (n c : ℕ) → f < 256 → p < n → c ≤ p → IsSolvedBelow n old c → IsSolvedBelow n new c
  adds-solved n c lf lp le solved = record {
    bytes = adds-bytes lf solved.bytes;
    units = λ k j lk lj. elim (cases_eq k i) [
      | inl here ↦ ap (λ r. new r j) here ∙ stays j lj ∙ ap (λ r. old r j) (sym here) ∙ solved.units k j lk lj
      | inr other ↦ adds.elsewhere k j other ∙ solved.units k j lk lj
    ];
  }
    where
      stays : (j : ℕ) → j < c → new i j ≡ old i j
      stays j lj = elim (cases_lt j m) [
        | inl lt ↦
            adds.here j lt
            ∙ ap (λ v. bit_xor (old i j) (times f v)) (solved.units p j lp lj ∙ identity_at-other p j (omega arith))
            ∙ ap (bit_xor (old i j)) (times-zero f) ∙ xor_zero_r (old i j)
        | inr past ↦ adds.beyond j past
      ]

-- bringing an unknown into its equation
pub brought : (m : ℕ) (old new : ℕ → ℕ → ℕ) (c p : ℕ) → AddsTimes m old new c 1 p → c < m → IsTable old → old c c ≡ 0
    → old p c ≢ 0
    → new c c ≢ 0
brought m old new c p adds lt bytes none has e =
    has (sym (one-times (old p c) (bytes p c)) ∙ sym (xor_zero_l (times 1 (old p c)))
    ∙ ap (λ v. bit_xor v (times 1 (old p c))) (sym none)
    ∙ sym (adds.here c lt) ∙ e)

module _ (m : ℕ) (old new : ℕ → ℕ → ℕ) (c f : ℕ) (scales : Scales m old new c f) where
  scales-bytes : f < 256 → IsTable old → IsTable new
  scales-bytes lf bytes k j = elim (cases_eq k c) [
    | inl here ↦ subst (λ r. new r j < 256) (sym here) (elim (cases_lt j m) [
      | inl lt ↦ subst (λ v. v < 256) (sym (scales.here j lt)) (times-lt f (old c j) lf (bytes c j))
      | inr past ↦ subst (λ v. v < 256) (sym (scales.beyond j past)) (bytes c j)
    ])
    | inr other ↦ subst (λ v. v < 256) (sym (scales.elsewhere k j other)) (bytes k j)
  ]

  pub scales-solved : (n : ℕ) → f < 256 → c < n → IsSolvedBelow n old c → IsSolvedBelow n new c
  scales-solved n lf lc solved = record {
    bytes = scales-bytes lf solved.bytes;
    units = λ k j lk lj. elim (cases_eq k c) [
      | inl here ↦ ap (λ r. new r j) here ∙ zero_stays j lj ∙ sym (identity_at-other k j (omega arith))
      | inr other ↦ scales.elsewhere k j other ∙ solved.units k j lk lj
    ];
  }
    where
      zero_here : (j : ℕ) → j < c → old c j ≡ 0
      zero_here j lj = solved.units c j lc lj ∙ identity_at-other c j (omega arith)

      zero_stays : (j : ℕ) → j < c → new c j ≡ 0
      zero_stays j lj = elim (cases_lt j m) [
        | inl lt ↦ scales.here j lt ∙ ap (times f) (zero_here j lj) ∙ times-zero f
        | inr past ↦ scales.beyond j past ∙ zero_here j lj
      ]

-- clearing a column
pub IsCleared-skip : (n m c k : ℕ) (start e : ℕ → ℕ → ℕ) → k ≡ c → IsCleared n m c k start e
    → IsCleared n m c (k + 1) start e
IsCleared-skip n m c k start e here before = record {
  same = before.same;
  solved = before.solved;
  one = before.one;
  cleared = λ i lt. elim (cases_eq i k) [
    | inl at ↦ ap (λ x. e x c) (at ∙ here) ∙ before.one ∙ sym (identity_at-same i c (at ∙ here))
    | inr below ↦ before.cleared i (omega arith)
  ];
}

pub IsCleared-step : (n m c k : ℕ) (start e new : ℕ → ℕ → ℕ) → k ≢ c → c < n → c < m → AddsTimes m e new k (e k c) c
    → IsCleared n m c k start e → IsCleared n m c (k + 1) start new
IsCleared-step n m c k start e new apart lc lm adds before =
    let lf : e k c < 256 = before.solved.bytes k c in
    record {
      same = SameSolutions-trans n m start e new before.same
          (SameSolutions-adds n m k (e k c) c e new lf before.solved.bytes adds apart lc);
      solved = adds-solved m e new k (e k c) c adds n c lf lc (omega arith) before.solved;
      one = adds.elsewhere c c (λ x. apart (sym x)) ∙ before.one;
      cleared = λ i lt. elim (cases_eq i k) [
        | inl at ↦
            ap (λ x. new x c) at ∙ adds.here c lm
            ∙ ap (λ v. bit_xor (e k c) v) (ap (times (e k c)) before.one ∙ times-one (e k c) lf)
            ∙ xor_self (e k c) ∙ sym (identity_at-other i c (λ x. apart (sym at ∙ x)))
        | inr below ↦ adds.elsewhere i c below ∙ before.cleared i (omega arith)
      ];
    }
