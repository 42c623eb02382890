-- One answer more, in the order of an asking.
use Rattle.std.proofs.Common.{◌≡◌, ℕ, zero, suc, ◌+◌, ◌<◌, ◌≤◌, ◌⊎◌, Bool, true, false, cond, List, [], ◌∷◌, ◌++◌}
use Rattle.std.proofs.Common.{length, take, map, get_or, Option, Some, is_some, refl, sym, ap, ◌∙◌, subst, inl, inr}
use Rattle.std.proofs.Common.{arith, add-zero, append_assoc}
use Rattle.std.specs.Prelude.{slice_get, IfSome}
use Rattle.std.proofs.lemmas.List.{length-map, map_push, take-append-le, take_at, length_push, get_or_append_left}
use Rattle.std.proofs.lemmas.List.{get_or_push}
use Rattle.std.proofs.lemmas.Bool.{cases_lt}
use Rattle.std.proofs.lemmas.List.Sums.{sum_by_push}
use Rattle.mf_decode.specs.declared.pieces.Asked.{Asked}
use Rattle.mf_decode.specs.declared.pieces.Place.TheVariants as place
use Rattle.mf_decode.specs.Stripes.{Stripe, IsPiece, IsParity}
use Rattle.mf_decode.specs.Answers.{had, pieces_from, parities_from}
use Rattle.mf_decode.specs.Fronts.{had_from, ArePieces, AreParities, ParitiesInOrder}

-- ---- the lists

-- one more piece at the end
pub pieces_from-push : (t n : ℕ) (hs : List Bool) (h : Bool) → t + length hs ≡ n
    → pieces_from t (hs ++ h ∷ []) ≡ pieces_from t hs ++ record { place = place.Piece n; had = h } ∷ []
pieces_from-push t n [] h e = ap (λ (m : ℕ). pieces_from m (h ∷ [])) (let d : t ≡ n = omega arith in d)
pieces_from-push t n (x ∷ hs) h e = ap (λ (l : List Asked). record { place = place.Piece t; had = x } ∷ l)
    (pieces_from-push (t + 1) n hs h (omega arith))

-- one more parity at the end
pub parities_from-push : (t n : ℕ) (hs : List Bool) (h : Bool) → t + length hs ≡ n
    → parities_from t (hs ++ h ∷ []) ≡ parities_from t hs ++ record { place = place.Parity n; had = h } ∷ []
parities_from-push t n [] h e = ap (λ (m : ℕ). parities_from m (h ∷ [])) (let d : t ≡ n = omega arith in d)
parities_from-push t n (x ∷ hs) h e = ap (λ (l : List Asked). record { place = place.Parity t; had = x } ∷ l)
    (parities_from-push (t + 1) n hs h (omega arith))

-- one more that was had, and one more that was not
pub had-push : (hs : List Bool) (h : Bool) → had (hs ++ h ∷ []) ≡ had hs + cond h 1 0
had-push hs h = sum_by_push (λ (x : Bool). cond x 1 0) hs h

pub had_from-push-true : (t n : ℕ) (hs : List Bool) → t + length hs ≡ n
    → had_from t (hs ++ true ∷ []) ≡ had_from t hs ++ n ∷ []
had_from-push-true t n [] e = ap (λ (m : ℕ). m ∷ []) (let d : t ≡ n = omega arith in d)
had_from-push-true t n (true ∷ hs) e = ap (λ (l : List ℕ). t ∷ l) (had_from-push-true (t + 1) n hs (omega arith))
had_from-push-true t n (false ∷ hs) e = had_from-push-true (t + 1) n hs (omega arith)

pub had_from-push-false : (t : ℕ) (hs : List Bool) → had_from t (hs ++ false ∷ []) ≡ had_from t hs
had_from-push-false t [] = refl
had_from-push-false t (true ∷ hs) = ap (λ (l : List ℕ). t ∷ l) (had_from-push-false (t + 1) hs)
had_from-push-false t (false ∷ hs) = had_from-push-false (t + 1) hs

-- what stands in a list with one more element at its end
pub slice_get-push : {A : Type 0} (xs : List A) (y : A) (t : ℕ) (z : A) → slice_get (xs ++ y ∷ []) t ≡ Some z
    → (slice_get xs t ≡ Some z) ⊎ ((t ≡ length xs) × (y ≡ z))
slice_get-push [] y zero z e = inr (refl, (cc))
slice_get-push [] y (suc t) z e = absurd (cc)
slice_get-push (x ∷ xs) y zero z e = inl e
slice_get-push (x ∷ xs) y (suc t) z e = elim (slice_get-push xs y t z e)
    [ inl l ↦ inl l | inr (here, same) ↦ inr (ap suc here, same) ]

-- one more answer of a piece, by what was found
pub pieces_answers-push : (before now later : List Asked) (found : List (Option (List ℕ))) (o : Option (List ℕ)) (t : ℕ)
    → length found ≡ t → later ≡ now ++ record { place = place.Piece t; had = is_some o } ∷ []
    → now ≡ before ++ pieces_from 0 (map is_some found)
    → later ≡ before ++ pieces_from 0 (map is_some (found ++ o ∷ []))
pieces_answers-push before now later found o t here e n =
    let more : List Asked = record { place = place.Piece t; had = is_some o } ∷ [] in
    e ∙ ap (λ (l : List Asked). l ++ more) n ∙ append_assoc before (pieces_from 0 (map is_some found)) more
    ∙ ap (λ (l : List Asked). before ++ l)
    (sym (pieces_from-push 0 t (map is_some found) (is_some o)
    (let l = length-map found (is_some {T = List ℕ}) in omega arith))
    ∙ ap (λ (hs : List Bool). pieces_from 0 hs) (sym (map_push is_some found o)))

-- ---- the chunks

-- one more piece that is in its place
pub are_pieces-push : (stripe : Stripe) (found : List (Option (List ℕ))) (o : Option (List ℕ)) (t : ℕ)
    → length found ≡ t → IfSome o (IsPiece stripe t) → ArePieces stripe found → ArePieces stripe (found ++ o ∷ [])
are_pieces-push stripe found o t here is before k chunk e =
    elim (slice_get-push found o k (Some chunk) e) [
      | inl l ↦ before k chunk l
      | inr (at, same) ↦ subst (λ (n : ℕ). IsPiece stripe n chunk) (sym (at ∙ here))
          (subst (λ (p : Option (List ℕ)). IfSome p (IsPiece stripe t)) same is)
    ]

-- one more parity
pub are_parities-push : (stripe : Stripe) (numbers : List ℕ) (chunks : List (List ℕ)) (p : ℕ) (chunk : List ℕ)
    → IsParity stripe p chunk → AreParities stripe numbers chunks
    → AreParities stripe (numbers ++ p ∷ []) (chunks ++ chunk ∷ [])
are_parities-push stripe numbers chunks p chunk is before = record {
  len = length_push chunks chunk ∙ ap (λ (n : ℕ). n + 1) before.len ∙ sym (length_push numbers p);
  each = λ j lt. at j (cases_lt j (length numbers)) lt;
}
  where
    at : (j : ℕ) → (j < length numbers) ⊎ (length numbers ≤ j) → j < length (numbers ++ p ∷ [])
        → IsParity stripe (get_or (numbers ++ p ∷ []) j 0) (get_or (chunks ++ chunk ∷ []) j [])
    at j (inl lt) _ =
        let len = before.len in
        let near : j < length chunks = omega arith in
        rw (get_or_append_left numbers (p ∷ []) 0 j lt, get_or_append_left chunks (chunk ∷ []) [] j near)
        (before.each j lt)
    at j (inr le) lt =
        let len = before.len in
        let long = length_push numbers p in
        let n : length numbers ≡ j = omega arith in
        let c : length chunks ≡ j = omega arith in
        rw (get_or_push numbers p 0 j n, get_or_push chunks chunk [] j c) is

-- ---- the order

-- a parity asked for while some are wanted
pub in_order-push : (points wanted : ℕ) (before now later : List Asked) (hs : List Bool) (p : ℕ) (h : Bool)
    → length hs ≡ p → p < points → had hs < wanted → later ≡ now ++ record { place = place.Parity p; had = h } ∷ []
    → ParitiesInOrder points wanted before now hs → ParitiesInOrder points wanted before later (hs ++ h ∷ [])
in_order-push points wanted before now later hs p h here lt more e o = record {
  answers = e ∙ ap (λ (l : List Asked). l ++ record { place = place.Parity p; had = h } ∷ []) o.answers
      ∙ append_assoc before (parities_from 0 hs) (record { place = place.Parity p; had = h } ∷ [])
      ∙ ap (λ (l : List Asked). before ++ l) (sym (parities_from-push 0 p hs h (omega arith)));
  exist = let l = length_push hs h in omega arith;
  needed = λ k k-lt. at k (cases_lt k (length hs)) k-lt;
}
  where
    at : (k : ℕ) → (k < length hs) ⊎ (length hs ≤ k) → k < length (hs ++ h ∷ []) → had (take k (hs ++ h ∷ [])) < wanted
    at k (inl near) _ = rw (take-append-le k hs (h ∷ []) (omega arith)) (o.needed k near)
    at k (inr far) k-lt =
        let long = length_push hs h in
        let n : length hs ≡ k = omega arith in
        rw (take_at hs (h ∷ []) k n) more

-- Parities were asked for so far, p of them, and these numbers were had.
abbrev pub AskedSoFar : ℕ → ℕ → List Asked → List Asked → List ℕ → ℕ → Type 0
AskedSoFar points wanted before now numbers p =
    (hs : List Bool) × ParitiesInOrder points wanted before now hs × (length hs ≡ p) × (numbers ≡ had_from 0 hs)
    × (length numbers ≡ had hs)

-- one more, which was had
pub asked_so_far-had : (points wanted : ℕ) (before now later : List Asked) (numbers : List ℕ) (p : ℕ)
    (o : Option (List ℕ)) (chunk : List ℕ) → o ≡ Some chunk
    → later ≡ now ++ record { place = place.Parity p; had = is_some o } ∷ [] → p < points → length numbers < wanted
    → AskedSoFar points wanted before now numbers p → AskedSoFar points wanted before later (numbers ++ p ∷ []) (p + 1)
asked_so_far-had points wanted before now later numbers p o chunk is e lt more (hs, order, here, are, long) = (
  hs ++ true ∷ [],
  in_order-push points wanted before now later hs p true here lt (subst (λ (n : ℕ). n < wanted) long more)
      (e ∙ ap (λ (x : Option (List ℕ)). now ++ record { place = place.Parity p; had = is_some x } ∷ []) is) order,
  length_push hs true ∙ ap (λ (n : ℕ). n + 1) here,
  ap (λ (l : List ℕ). l ++ p ∷ []) are ∙ sym (had_from-push-true 0 p hs (let n = here in omega arith)),
  length_push numbers p ∙ ap (λ (n : ℕ). n + 1) long ∙ sym (had-push hs true),
)

-- one more, which was not had
pub asked_so_far-missed : (points wanted : ℕ) (before now later : List Asked) (numbers : List ℕ) (p : ℕ)
    (o : Option (List ℕ)) → is_some o ≡ false → later ≡ now ++ record { place = place.Parity p; had = is_some o } ∷ []
    → p < points → length numbers < wanted → AskedSoFar points wanted before now numbers p
    → AskedSoFar points wanted before later numbers (p + 1)
asked_so_far-missed points wanted before now later numbers p o is e lt more (hs, order, here, are, long) = (
  hs ++ false ∷ [],
  in_order-push points wanted before now later hs p false here lt (subst (λ (n : ℕ). n < wanted) long more)
      (e ∙ ap (λ (h : Bool). now ++ record { place = place.Parity p; had = h } ∷ []) is) order,
  length_push hs false ∙ ap (λ (n : ℕ). n + 1) here,
  are ∙ sym (had_from-push-false 0 hs),
  long ∙ sym (add-zero (had hs)) ∙ sym (had-push hs false),
)
