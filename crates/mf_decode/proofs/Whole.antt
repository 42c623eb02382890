-- What was found and had is handed in to a decoding, with which the stripe's data list agrees.
use Rattle.std.proofs.Common.{◌≡◌, ℕ, suc, ◌+◌, ◌<◌, ◌≤◌, inl, inr, ◌++◌, Bool, true, false, cond, List, [], ◌∷◌}
use Rattle.std.proofs.Common.{length, map, get_or, Option, Some, None, is_some, refl, sym, ap, ◌∙◌, subst, arith}
use Rattle.std.specs.Prelude.{slice_get, All, IfSome}
use Rattle.std.proofs.lemmas.List.{length-map, get_or-map, get_or_default, ext_get_or}
use Rattle.std.proofs.lemmas.List.Recursion.{is_count_by}
use Rattle.std.proofs.lemmas.Option.{slice_get-get_or}
use Rattle.mf_erasure.specs.Erasure.{IsErasure}
use Rattle.mf_lemmas.proofs.Rising.{Rises, rises_none, rises_cons}
use Rattle.mf_erasure.proofs.Places.{places_from}
use Rattle.mf_decode.specs.Stripes.{Stripe, IsChunk, IsDataList, parity_of}
use Rattle.mf_decode.specs.declared.pieces.Asked.{Asked}
use Rattle.mf_decode.specs.declared.pieces.Place.{Place}
use Rattle.mf_decode.specs.Answers.{had, missing, IsAsking}
use Rattle.mf_decode.specs.Fronts.{had_from, ArePieces, AreParities, PiecesAsked, ParitiesAsked, ParitiesInOrder}
use Rattle.mf_decode.specs.Decoding.{gaps_from, Agrees}
use Rattle.mf_decode.specs.Gathering.{IsStripe, IsWhole}
use Rattle.mf_decode.proofs.Askings.{asked_whole}

-- ---- places in order

rises_lower : (low high : ℕ) (xs : List ℕ) → Rises (low + 1) high xs → Rises low high xs
rises_lower low high xs r = record {
  from = λ j l. (let h = r.from j l in omega arith);
  below = r.below;
  rise = r.rise;
}

rises_gaps : {A : Type 0} (t high : ℕ) (ps : List (Option A)) → t + length ps ≤ high → Rises t high (gaps_from t ps)
rises_gaps t high [] e = rises_none t high
rises_gaps t high (Some x ∷ ps) e = rises_lower t high (gaps_from (t + 1) ps) (rises_gaps (t + 1) high ps (omega arith))
rises_gaps t high (None ∷ ps) e = rises_cons t high t (gaps_from (t + 1) ps) (omega arith) (omega arith)
    (rises_gaps (t + 1) high ps (omega arith))

rises_had : (t high : ℕ) (hs : List Bool) → t + length hs ≤ high → Rises t high (had_from t hs)
rises_had t high [] e = rises_none t high
rises_had t high (false ∷ hs) e = rises_lower t high (had_from (t + 1) hs) (rises_had (t + 1) high hs (omega arith))
rises_had t high (true ∷ hs) e = rises_cons t high t (had_from (t + 1) hs) (omega arith) (omega arith)
    (rises_had (t + 1) high hs (omega arith))

-- as many numbers as were had
pub length-had_from : (t : ℕ) (hs : List Bool) → length (had_from t hs) ≡ had hs
length-had_from t hs = counts t hs ∙ is_count_by count (λ h. h) refl (λ h rest. more h rest) hs
  where
    count : List Bool → ℕ
    count [] = 0
    count (true ∷ rest) = suc (count rest)
    count (false ∷ rest) = count rest

    more : (h : Bool) (rest : List Bool) → count (h ∷ rest) ≡ cond h (1 + count rest) (count rest)
    more true rest = (let e : suc (count rest) ≡ 1 + count rest = omega arith in e)
    more false rest = refl

    counts : (n : ℕ) (rest : List Bool) → length (had_from n rest) ≡ count rest
    counts n [] = refl
    counts n (true ∷ rest) = ap suc (counts (n + 1) rest)
    counts n (false ∷ rest) = counts (n + 1) rest

-- what was missed and what was had are an erasure
pub is_erasure : {A : Type 0} (width count : ℕ) (found : List (Option A)) (hs : List Bool) → length found ≤ width
    → length hs ≤ count → length (gaps_from 0 found) ≡ length (had_from 0 hs)
    → IsErasure width count (gaps_from 0 found) (had_from 0 hs)
is_erasure width count found hs few fewer even = record {
  even = even;
  lost_places = places_from width (gaps_from 0 found) (rises_gaps 0 width found (omega arith));
  kept_places = places_from count (had_from 0 hs) (rises_had 0 count hs (omega arith));
}

-- ---- sizes

pub piece_sizes : (stripe : Stripe) (size : ℕ) (found : List (Option (List ℕ))) → stripe.size ≡ size
    → ArePieces stripe found → All (λ piece. IfSome piece (λ bytes. length bytes ≡ size)) found
piece_sizes stripe size found e are k d lt = at (get_or found k d) (slice_get-get_or found k d lt)
  where
    at : (o : Option (List ℕ)) → slice_get found k ≡ Some o → IfSome o (λ bytes. length bytes ≡ size)
    at None h = tt
    at (Some chunk) h = (are k chunk h).len ∙ e

pub parity_sizes : (stripe : Stripe) (size : ℕ) (numbers : List ℕ) (chunks : List (List ℕ)) → stripe.size ≡ size
    → AreParities stripe numbers chunks → All (λ bytes. length bytes ≡ size) chunks
parity_sizes stripe size numbers chunks e are k d lt =
    let near : k < length numbers = subst (λ (n : ℕ). k < n) are.len lt in
    subst (λ (l : List ℕ). length l ≡ size) (get_or_default chunks k [] d lt) ((are.each k near).len ∙ e)

-- ---- agreement

-- the data list of the stripe agrees with what was found and had
list_agrees : (stripe : Stripe) (size count width : ℕ) (points erased : List ℕ) (found : List (Option (List ℕ)))
    (numbers : List ℕ) (chunks list : List (List ℕ)) → IsStripe size count points stripe
    → length found ≡ stripe.count → ArePieces stripe found → AreParities stripe numbers chunks
    → stripe.pieces ≡ Some list → IsDataList stripe.count stripe.size list
    → Agrees (record { points = points; width = width; erased = erased; parities = numbers }) size found chunks list
list_agrees stripe size count width points erased found numbers chunks list is long are parities some d = record {
  list_is = record { len = d.len ∙ sym long; chunks = subst (λ (n : ℕ). All (IsChunk n) list) is.size_is d.chunks };
  pieces_are = λ t chunk h. subst (λ (o : Option (List (List ℕ))). IfSome o (λ l. slice_get l t ≡ Some chunk)) some
      (are t chunk h).agrees;
  parities_are =
      let given : List ℕ = map (λ p. get_or points p 0) numbers in
      let sums : ℕ → List ℕ = λ point. parity_of size point list in
      let many : length given ≡ length numbers = length-map numbers (λ p. get_or points p 0) in
      ext_get_or [] chunks (map sums given) (parities.len ∙ sym many ∙ sym (length-map given sums))
      (λ j lt.
      let near : j < length numbers = subst (λ (n : ℕ). j < n) parities.len lt in
      let here : j < length given = subst (λ (n : ℕ). j < n) (sym many) near in
      subst (λ (o : Option (List (List ℕ))). IfSome o
      (λ l. get_or chunks j [] ≡ parity_of stripe.size (get_or stripe.points (get_or numbers j 0) 0) l)) some
      (parities.each j near).agrees
      ∙ ap (λ (n : ℕ). parity_of n (get_or stripe.points (get_or numbers j 0) 0) list) is.size_is
      ∙ ap (λ (l : List ℕ). sums (get_or l (get_or numbers j 0) 0)) is.points_are
      ∙ ap sums (sym (get_or-map (λ p. get_or points p 0) numbers j 0 0 near))
      ∙ sym (get_or-map sums given j 0 [] here));
}

-- all chunks of the stripe
pub is_whole : (stripe : Stripe) (size count width : ℕ) (points erased : List ℕ) (found : List (Option (List ℕ)))
    (numbers : List ℕ) (chunks all : List (List ℕ)) → IsStripe size count points stripe
    → length found ≡ stripe.count → ArePieces stripe found → AreParities stripe numbers chunks
    → IfSome stripe.pieces (IsDataList stripe.count stripe.size) → IsDataList (length found) size all
    → ((list : List (List ℕ))
    → Agrees (record { points = points; width = width; erased = erased; parities = numbers }) size found chunks list
    → list ≡ all) → IsWhole stripe all
is_whole stripe size count width points erased found numbers chunks all is long are parities given d only = record {
  len = d.len ∙ long;
  sizes = λ k other lt. (d.chunks k other lt).len ∙ sym is.size_is;
  data_list = at stripe.pieces refl;
}
  where
    at : (o : Option (List (List ℕ))) → stripe.pieces ≡ o → IfSome o (λ list. all ≡ list)
    at None e = tt
    at (Some list) e = sym
        (only list
        (list_agrees stripe size count width points erased found numbers chunks list is long are parities e
        (subst (λ (o : Option (List (List ℕ))). IfSome o (IsDataList stripe.count stripe.size)) e given)))

-- ---- the asking

-- as many answers as pieces
pub pieces_count : (stripe : Stripe) (size count : ℕ) (points : List ℕ) (before middle : List Asked)
    (first : Option Place) (found : List (Option (List ℕ))) → IsStripe size count points stripe
    → PiecesAsked stripe before middle first found
    → length (map is_some found) ≡ count
pieces_count stripe size count points before middle first found is pieces = length-map found (is_some {T = List ℕ})
    ∙ pieces.count ∙ is.count_is

-- pieces and parities that were asked for are a whole asking
pub asks_whole : (stripe : Stripe) (size count : ℕ) (points : List ℕ) (before middle after : List Asked)
    (first second : Option Place) (found : List (Option (List ℕ))) (numbers : List ℕ) (chunks : List (List ℕ))
    (hs : List Bool)
    → IsStripe size count points stripe → PiecesAsked stripe before middle first found
    → ParitiesAsked stripe (missing (map is_some found)) middle after second numbers chunks hs
    → (asked : List Asked) × (after ≡ before ++ asked) × IsAsking count (length points) (map is_some found) hs asked
asks_whole stripe size count points before middle after first second found numbers chunks hs is pieces parities =
    asked_whole count (length points) before middle after (map is_some found) hs
    (pieces_count stripe size count points before middle first found is pieces) pieces.answers
    (subst (λ (n : ℕ). ParitiesInOrder n (missing (map is_some found)) middle after hs) (ap length is.points_are)
    parities.order)
    (elim parities.ended [ inl e ↦ inl e | inr (less, all) ↦ inr (all ∙ ap length is.points_are) ])

-- enough parities were had, where no fewer than wanted were
pub had_enough : (stripe : Stripe) (wanted : ℕ) (middle after : List Asked) (second : Option Place) (numbers : List ℕ)
    (chunks : List (List ℕ)) (hs : List Bool) → ParitiesAsked stripe wanted middle after second numbers chunks hs
    → wanted ≤ length numbers → had hs ≡ wanted
had_enough stripe wanted middle after second numbers chunks hs parities enough =
    let count : length numbers ≡ had hs = ap length parities.numbers_are ∙ length-had_from 0 hs in
    elim parities.ended [ inl e ↦ e | inr (less, all) ↦ absurd (omega arith) ]

-- gaps of two lists, as many, are an erasure
pub gaps_erasure : {A : Type 0} (width count : ℕ) (pieces spare : List (Option A)) → length pieces ≤ width
    → length spare ≤ count → length (gaps_from 0 pieces) ≡ length (gaps_from 0 spare)
    → IsErasure width count (gaps_from 0 pieces) (gaps_from 0 spare)
gaps_erasure width count pieces spare few fewer even = record {
  even = even;
  lost_places = places_from width (gaps_from 0 pieces) (rises_gaps 0 width pieces (omega arith));
  kept_places = places_from count (gaps_from 0 spare) (rises_gaps 0 count spare (omega arith));
}
