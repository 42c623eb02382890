-- The numbers that a rising list leaves out.
use mathlib.Core.Logic.{dite}
use native.Mathlib.Decide.{ℕ_discrete}
use Rattle.std.proofs.Common.{◌≡◌, ◌≢◌, ℕ, zero, suc, ◌+◌, ◌<◌, ◌≤◌, ◌⊎◌, cond, List, [], ◌∷◌, length, get_or, sym}
use Rattle.std.proofs.Common.{subst, inl, inr, ⊎_elim, arith}
use Rattle.std.proofs.lemmas.Bool.Decides.{eqb_tells}
use Rattle.mf_lemmas.proofs.Rising.{Rises, rises_none, rises_cons, rises_tail, rises_above}
use Rattle.mf_erasure.specs.Erasure.{others_from}

abbrev pub Has : List ℕ → ℕ → Type 0
Has xs p = (j : ℕ) × (j < length xs) × (get_or xs j 0 ≡ p)

pub has_later : (x : ℕ) (xs : List ℕ) (p : ℕ) → Has xs p → Has (x ∷ xs) p
has_later x xs p h = let l : h.0 < length xs = h.1 in (suc h.0, omega arith, h.2)

pub has_first : (x : ℕ) (xs : List ℕ) (p : ℕ) → x ≡ p → Has (x ∷ xs) p
has_first x xs p e = (zero, omega arith, e)

-- the two lists share the numbers from low on and below high
pub record Shares (low high : ℕ) (ones others : List ℕ) : Type 0 where
  pub rises : Rises low high others
  pub lengths : low + length ones + length others ≡ high
  pub one_of : (p : ℕ) → low ≤ p → p < high → Has ones p ⊎ Has others p
  pub apart : (i j : ℕ) → i < length ones → j < length others → get_or ones i 0 ≢ get_or others j 0

shares_end : (low high : ℕ) (ones : List ℕ) → low ≡ high → Rises low high ones → Shares low high ones []
shares_end low high [] e r = record {
  rises = rises_none low high;
  lengths = omega arith;
  one_of = λ p l m. absurd (omega arith);
  apart = λ i j l m. absurd (omega arith);
}
shares_end low high (x ∷ xs) e r = let a : low ≤ x = r.from 0 (omega arith) in let b : x < high =
    r.below 0 (omega arith) in absurd (omega arith)

shares_other : (low high : ℕ) (ones others : List ℕ) → low < high → Rises (low + 1) high ones
    → Shares (low + 1) high ones others → Shares low high ones (low ∷ others)
shares_other low high ones others lt r s = record {
  rises = rises_cons low high low others (omega arith) lt s.rises;
  lengths = let e = s.lengths in omega arith;
  one_of = λ p l m. dite (ℕ_discrete low p)
      (λ e. inr (has_first low others p e))
      (λ ne. ⊎_elim inl (λ h. inr (has_later low others p h)) (s.one_of p (omega arith) m));
  apart = apart;
}
  where
    apart : (i j : ℕ) → i < length ones → j < length (low ∷ others) → get_or ones i 0 ≢ get_or (low ∷ others) j 0
    apart i zero l m = let h = r.from i l in λ e. omega arith
    apart i (suc j) l m = s.apart i j l (omega arith)

shares_one : (low high x : ℕ) (ones others : List ℕ) → low < high → x ≡ low → Shares (low + 1) high ones others
    → Shares low high (x ∷ ones) others
shares_one low high x ones others lt is s = record {
  rises = record {
    from = λ j l. (let h = s.rises.from j l in omega arith);
    below = s.rises.below;
    rise = s.rises.rise;
  };
  lengths = let e = s.lengths in omega arith;
  one_of = λ p l m. dite (ℕ_discrete x p)
      (λ e. inl (has_first x ones p e))
      (λ ne. ⊎_elim (λ h. inl (has_later x ones p h)) inr (s.one_of p (omega arith) m));
  apart = apart;
}
  where
    apart : (i j : ℕ) → i < length (x ∷ ones) → j < length others → get_or (x ∷ ones) i 0 ≢ get_or others j 0
    apart zero j l m = let h = s.rises.from j m in λ e. omega arith
    apart (suc i) j l m = s.apart i j (omega arith) m

pub others_share : (n low : ℕ) (ones : List ℕ) → Rises low (low + n) ones
    → Shares low (low + n) ones (others_from low n ones)
unfolding others_from
others_share zero low ones r = shares_end low (low + 0) ones (omega arith) r
others_share (suc n) low [] r =
    let e : low + 1 + n ≡ low + suc n = omega arith in
    shares_other low (low + suc n) [] (others_from (low + 1) n []) (omega arith) (rises_none (low + 1) (low + suc n))
    (subst (λ h. Shares (low + 1) h [] (others_from (low + 1) n [])) e
    (others_share n (low + 1) [] (rises_none (low + 1) (low + 1 + n))))
others_share (suc n) low (x ∷ xs) r = elim (eqb_tells x low) [
  | inl t ↦ subst (λ b. Shares low (low + suc n) (x ∷ xs)
      (cond b (others_from (low + 1) n xs) (low ∷ others_from (low + 1) n (x ∷ xs)))) (sym t.0)
      (shares_one low (low + suc n) x xs (others_from (low + 1) n xs) (omega arith) t.1
      (subst (λ h. Shares (low + 1) h xs (others_from (low + 1) n xs)) e
      (others_share n (low + 1) xs
      (let is : x ≡ low = t.1 in subst (λ h. Rises (low + 1) h xs) (sym e)
      (subst (λ y. Rises (y + 1) (low + suc n) xs) is (rises_tail low (low + suc n) x xs r))))))
  | inr o ↦ subst (λ b. Shares low (low + suc n) (x ∷ xs)
      (cond b (others_from (low + 1) n xs) (low ∷ others_from (low + 1) n (x ∷ xs)))) (sym o.0)
      (let above = rises_above low (low + suc n) x xs o.1 r in
      shares_other low (low + suc n) (x ∷ xs) (others_from (low + 1) n (x ∷ xs)) (omega arith) above
      (subst (λ h. Shares (low + 1) h (x ∷ xs) (others_from (low + 1) n (x ∷ xs))) e
      (others_share n (low + 1) (x ∷ xs) (subst (λ h. Rises (low + 1) h (x ∷ xs)) (sym e) above))))
]
  where
    e : low + 1 + n ≡ low + suc n
    e = omega arith
