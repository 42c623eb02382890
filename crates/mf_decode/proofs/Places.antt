-- Gaps of a list, met one after the other.
use Rattle.std.proofs.Common.{◌≡◌, ℕ, zero, suc, ◌+◌, ◌<◌, List, [], ◌∷◌, length, get_or, take, Option, Some, None}
use Rattle.std.proofs.Common.{true, false, refl, sym, ap, ap₂, ◌∙◌, arith}
use Rattle.std.specs.Prelude.{is_some}
use Rattle.mf_decode.specs.Decoding.{gaps_from}
use Rattle.mf_decode.proofs.Filling.{gaps_within, gaps_before}

-- a gap is the next one behind those before it
gap_here : {A : Type 0} (t : ℕ) (ps : List (Option A)) (k : ℕ) → k < length ps → is_some (get_or ps k None) ≡ false
    → get_or (gaps_from t ps) (length (gaps_from t (take k ps))) 0 ≡ t + k
gap_here t [] k lt none = absurd (omega arith)
gap_here t (Some x ∷ ps) zero lt none = absurd (cc)
gap_here t (None ∷ ps) zero lt none = omega arith
gap_here t (Some x ∷ ps) (suc k) lt none = gap_here (t + 1) ps k (omega arith) none
    ∙ (let e : t + 1 + k ≡ t + suc k = omega arith in e)
gap_here t (None ∷ ps) (suc k) lt none = gap_here (t + 1) ps k (omega arith) none
    ∙ (let e : t + 1 + k ≡ t + suc k = omega arith in e)

-- where a piece is there, the next gap is behind it
gap_behind : {A : Type 0} (t : ℕ) (ps : List (Option A)) (k : ℕ) → k < length ps → is_some (get_or ps k None) ≡ true
    → length (gaps_from t (take k ps)) < length (gaps_from t ps)
    → t + k < get_or (gaps_from t ps) (length (gaps_from t (take k ps))) 0
gap_behind t [] k lt some below = absurd (omega arith)
gap_behind t (Some x ∷ ps) zero lt some below = let (low, high) = gaps_within (t + 1) ps 0 below in omega arith
gap_behind t (None ∷ ps) zero lt some below = absurd (cc)
gap_behind t (Some x ∷ ps) (suc k) lt some below =
    let h = gap_behind (t + 1) ps k (omega arith) some below in omega arith
gap_behind t (None ∷ ps) (suc k) lt some below =
    let h = gap_behind (t + 1) ps k (omega arith) some (omega arith) in omega arith

-- what stands at a place, by the next gap
module _ {A : Type 0} (ps : List (Option A)) (erased : List ℕ) (k next : ℕ) (lt : k < length ps)
    (gaps : gaps_from 0 ps ≡ erased) (so_far : next ≡ length (gaps_from 0 (take k ps))) where
  link : get_or (gaps_from 0 ps) (length (gaps_from 0 (take k ps))) 0 ≡ get_or erased next 0
  link = ap₂ (λ (l : List ℕ) (n : ℕ). get_or l n 0) gaps (sym so_far)

  pub gap_met : next < length erased → get_or erased next 0 ≡ k → is_some (get_or ps k None) ≡ false
  gap_met below here = at (get_or ps k None) refl
    where
      at : (o : Option A) → get_or ps k None ≡ o → is_some o ≡ false
      at None e = refl
      at (Some x) e = absurd
          (let h = gap_behind 0 ps k lt (ap is_some e) (omega (arith, below, so_far, ap length gaps)) in
          omega (arith, h, link, here))

  pub piece_met : (next < length erased → get_or erased next 0 ≡ k → ⊥) → is_some (get_or ps k None) ≡ true
  piece_met other = at (get_or ps k None) refl
    where
      at : (o : Option A) → get_or ps k None ≡ o → is_some o ≡ true
      at (Some x) e = refl
      at None e = absurd
          (other (let h = gaps_before 0 ps k None lt (sym e) refl in omega (arith, h, so_far, ap length gaps))
          (sym link ∙ gap_here 0 ps k lt (ap is_some e) ∙ (let z : 0 + k ≡ k = omega arith in z)))
