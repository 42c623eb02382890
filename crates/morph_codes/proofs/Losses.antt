-- How long a row is that decodes, and a stripe for each loss.
use Rattle.std.proofs.Common.{◌≡◌, ℕ, zero, suc, ◌+◌, ◌<◌, ◌≤◌, ◌==◌, Bool, true, false, cond, List, [], ◌∷◌, All}
use Rattle.std.proofs.Common.{length, replicate, Option, Some, None, inl, inr, refl, sym, subst, ap, ap₂, arith}
use Rattle.std.specs.Prelude.{IfSome}
use Rattle.std.proofs.lemmas.Bool.Decides.{eqb_tells}
use Rattle.std.proofs.lemmas.List.{length-append, length-replicate, get_or-replicate}
use Rattle.mf_lemmas.proofs.Rising.{Rises, rises_none, rises_tail, rises_above}
use Rattle.mf_erasure.specs.Erasure.{IsErasure}
use Rattle.mf_erasure.proofs.Places.{rises_from}
use Rattle.mf_decode.specs.Decoding.{Plan, gaps_from}
use Rattle.mf_decode.specs.Columns.{present}
use Rattle.mf_decode.specs.Rows.{IsDecodingRow}
use Rattle.morph_codes.specs.Handed.{HasLost}

-- each piece is there, or it is a gap
present_and_gaps : {A : Type 0} (t : ℕ) (ps : List (Option A))
    → length (present ps) + length (gaps_from t ps) ≡ length ps
present_and_gaps t [] = refl
present_and_gaps t (Some x ∷ ps) = let h = present_and_gaps (t + 1) ps in omega arith
present_and_gaps t (None ∷ ps) = let h = present_and_gaps (t + 1) ps in omega arith

-- chunks of no bytes are bytes
no_bytes : (n : ℕ) → All (λ (chunk : List ℕ). All (λ b. b < 256) chunk) (replicate n [])
no_bytes n k d lt i e below =
    let within : k < n = omega (arith, length-replicate {A = List ℕ} n []) in
    absurd (omega (arith, below, ap length (get_or-replicate n k [] d within)))

-- n places from `at` on, of which just these are lost, with no bytes where something is there
holes : ℕ → ℕ → List ℕ → List (Option (List ℕ))
holes zero at lost = []
holes (suc n) at [] = Some [] ∷ holes n (at + 1) []
holes (suc n) at (x ∷ xs) = cond (x == at) (None ∷ holes n (at + 1) xs) (Some [] ∷ holes n (at + 1) (x ∷ xs))

either_long : (n : ℕ) (b : Bool) (xs ys : List (Option (List ℕ))) → length xs ≡ n → length ys ≡ n
    → length (cond b xs ys) ≡ n
either_long n true xs ys left right = left
either_long n false xs ys left right = right

holes_long : (n at : ℕ) (lost : List ℕ) → length (holes n at lost) ≡ n
unfolding holes
holes_long zero at lost = refl
holes_long (suc n) at [] = ap suc (holes_long n (at + 1) [])
holes_long (suc n) at (x ∷ xs) =
    either_long (suc n) (x == at) (None ∷ holes n (at + 1) xs) (Some [] ∷ holes n (at + 1) (x ∷ xs))
    (ap suc (holes_long n (at + 1) xs)) (ap suc (holes_long n (at + 1) (x ∷ xs)))

abbrev AreBytes : List (Option (List ℕ)) → Type 0
AreBytes pieces = All (λ piece. IfSome piece (λ chunk. All (λ b. b < 256) chunk)) pieces

bytes_some : (pieces : List (Option (List ℕ))) → AreBytes pieces → AreBytes (Some [] ∷ pieces)
bytes_some pieces all zero d lt = λ i e below. absurd (omega arith)
bytes_some pieces all (suc k) d lt = all k d (omega arith)

bytes_none : (pieces : List (Option (List ℕ))) → AreBytes pieces → AreBytes (None ∷ pieces)
bytes_none pieces all zero d lt = tt
bytes_none pieces all (suc k) d lt = all k d (omega arith)

either_bytes : (b : Bool) (xs ys : List (Option (List ℕ))) → AreBytes xs → AreBytes ys → AreBytes (cond b xs ys)
either_bytes true xs ys left right = left
either_bytes false xs ys left right = right

holes_bytes : (n at : ℕ) (lost : List ℕ) → AreBytes (holes n at lost)
unfolding holes
holes_bytes zero at lost = λ k d lt. absurd (omega arith)
holes_bytes (suc n) at [] = bytes_some (holes n (at + 1) []) (holes_bytes n (at + 1) [])
holes_bytes (suc n) at (x ∷ xs) =
    either_bytes (x == at) (None ∷ holes n (at + 1) xs) (Some [] ∷ holes n (at + 1) (x ∷ xs))
    (bytes_none (holes n (at + 1) xs) (holes_bytes n (at + 1) xs))
    (bytes_some (holes n (at + 1) (x ∷ xs)) (holes_bytes n (at + 1) (x ∷ xs)))

holes_gaps : (n at high : ℕ) (lost : List ℕ) → at + n ≡ high → Rises at high lost
    → gaps_from at (holes n at lost) ≡ lost
unfolding holes
holes_gaps zero at high [] e r = refl
holes_gaps zero at high (x ∷ xs) e r =
    let low : at ≤ x = r.from 0 (omega arith) in
    let below : x < high = r.below 0 (omega arith) in absurd (omega arith)
holes_gaps (suc n) at high [] e r = holes_gaps n (at + 1) high [] (omega arith) (rises_none (at + 1) high)
holes_gaps (suc n) at high (x ∷ xs) e r = elim (eqb_tells x at) [
  | inl t ↦ subst
      (λ b. gaps_from at (cond b (None ∷ holes n (at + 1) xs) (Some [] ∷ holes n (at + 1) (x ∷ xs))) ≡ x ∷ xs)
      (sym t.0)
      (let is : x ≡ at = t.1 in
      ap₂ (λ (a : ℕ) (l : List ℕ). a ∷ l) (sym is)
      (holes_gaps n (at + 1) high xs (omega arith)
      (subst (λ y. Rises (y + 1) high xs) is (rises_tail at high x xs r))))
  | inr o ↦ subst
      (λ b. gaps_from at (cond b (None ∷ holes n (at + 1) xs) (Some [] ∷ holes n (at + 1) (x ∷ xs))) ≡ x ∷ xs)
      (sym o.0)
      (holes_gaps n (at + 1) high (x ∷ xs) (omega arith) (rises_above at high x xs o.1 r))
]

-- each loss is that of some stripe
has_lost : (count points : ℕ) (lost had : List ℕ) → IsErasure count points lost had
    → HasLost count lost (holes count 0 lost)
has_lost count points lost had erasure = record {
  len = holes_long count 0 lost;
  gaps = holes_gaps count 0 count lost (omega arith) (rises_from count lost erasure.lost_places);
  bytes = holes_bytes count 0 lost;
}

-- a row that decodes has a coefficient for each piece of the stripe
pub row_long : (plan : Plan) (e count : ℕ) (row : List ℕ) → IsDecodingRow plan e count row
    → IsErasure count (length plan.points) plan.erased plan.parities → length row ≡ count
row_long plan e count row is erasure =
    let n = length plan.parities in
    let pieces = holes count 0 plan.erased in
    let lost = has_lost count (length plan.points) plan.erased plan.parities erasure in
    let long = (is.decodes pieces (replicate n []) lost.len lost.gaps (length-replicate n []) lost.bytes (no_bytes n)).0
    in
    omega (
      arith,
      long,
      length-append (replicate n []) (present pieces),
      length-replicate {A = List ℕ} n [],
      present_and_gaps 0 pieces,
      ap length lost.gaps,
      lost.len,
      erasure.even,
    )
