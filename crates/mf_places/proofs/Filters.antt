-- What a test keeps of a list that is made over a range.
use Rattle.std.proofs.Common.{◌≡◌, ◌≢◌, ℕ, suc, zero, ◌+◌, ◌-◌, ◌<◌, ◌≤◌, ◌⊎◌, min, Bool, true, false, cond, List, []}
use Rattle.std.proofs.Common.{◌∷◌, ◌++◌, map, filter, refl, ap, ◌∙◌, sym, subst, inl, inr, ⊎_elim, arith}
use Rattle.std.proofs.lemmas.Bool.{cases_lt}
use Rattle.std.proofs.lemmas.List.{append-nil}
use Rattle.std.proofs.lemmas.List.Elements.{filter-append}
use Rattle.std.proofs.lemmas.List.FromFn.{map-range_with_len_more, filter_of_map_range_with_len_more}
use Rattle.std.specs.List.{flat_map, range_with_len}
use Rattle.mf_places.proofs.Ranges.{flat_map-more}

-- of one element a number, those from lo up to hi pass
run-yes : {X : Type 0} (p : X → Bool) (f : ℕ → X) (lo hi n : ℕ) → lo ≤ n → n < hi → p (f n) ≡ true
    → filter p (map f (range_with_len 0 n)) ≡ map f (range_with_len lo (min hi n - lo))
    → filter p (map f (range_with_len 0 (n + 1))) ≡ map f (range_with_len lo (min hi (n + 1) - lo))
run-yes p f lo hi n from to pass so_far =
    let before : min hi n - lo ≡ n - lo = omega arith in
    let after : n - lo + 1 ≡ min hi (n + 1) - lo = omega arith in
    filter_of_map_range_with_len_more p f 0 n n (omega arith)
    ∙ ap (λ ys. ys ++ cond (p (f n)) (f n ∷ []) []) (so_far ∙ ap (λ k. map f (range_with_len lo k)) before)
    ∙ ap (λ b. map f (range_with_len lo (n - lo)) ++ cond b (f n ∷ []) []) pass
    ∙ sym (map-range_with_len_more f lo (n - lo) n (omega arith))
    ∙ ap (λ k. map f (range_with_len lo k)) after

run-no : {X : Type 0} (p : X → Bool) (f : ℕ → X) (lo hi n : ℕ) → (n < lo) ⊎ (hi ≤ n) → p (f n) ≡ false
    → filter p (map f (range_with_len 0 n)) ≡ map f (range_with_len lo (min hi n - lo))
    → filter p (map f (range_with_len 0 (n + 1))) ≡ map f (range_with_len lo (min hi (n + 1) - lo))
run-no p f lo hi n out fail so_far =
    let same : min hi n - lo ≡ min hi (n + 1) - lo = ⊎_elim (λ low. omega arith) (λ high. omega arith) out in
    filter_of_map_range_with_len_more p f 0 n n (omega arith)
    ∙ ap (λ ys. ys ++ cond (p (f n)) (f n ∷ []) []) (so_far ∙ ap (λ k. map f (range_with_len lo k)) same)
    ∙ ap (λ b. map f (range_with_len lo (min hi (n + 1) - lo)) ++ cond b (f n ∷ []) []) fail
    ∙ append-nil _

pub filter-run : {X : Type 0} (p : X → Bool) (f : ℕ → X) (lo hi : ℕ) → ((i : ℕ) → lo ≤ i → i < hi → p (f i) ≡ true)
    → ((i : ℕ) → (i < lo) ⊎ (hi ≤ i) → p (f i) ≡ false)
    → (n : ℕ) → filter p (map f (range_with_len 0 n)) ≡ map f (range_with_len lo (min hi n - lo))
filter-run p f lo hi passes fails zero =
    let none : 0 ≡ min hi 0 - lo = omega arith in ap (λ k. map f (range_with_len lo k)) none
filter-run p f lo hi passes fails (suc n) =
    let so_far = filter-run p f lo hi passes fails n in
    let e : n + 1 ≡ suc n = omega arith in
    subst (λ (k : ℕ). filter p (map f (range_with_len 0 k)) ≡ map f (range_with_len lo (min hi k - lo))) e
    (⊎_elim
    (λ low. run-no p f lo hi n (inl low) (fails n (inl low)) so_far)
    (λ from. ⊎_elim
    (λ to. run-yes p f lo hi n from to (passes n from to) so_far)
    (λ high. run-no p f lo hi n (inr high) (fails n (inr high)) so_far)
    (cases_lt n hi))
    (cases_lt n lo))

-- of pieces that all fail nothing is left
pub filter-no_piece : {X : Type 0} (p : X → Bool) (f : ℕ → List X) (n : ℕ) → ((i : ℕ) → i < n → filter p (f i) ≡ [])
    → filter p (flat_map f (range_with_len 0 n)) ≡ []
filter-no_piece p f zero fails = refl
filter-no_piece p f (suc n) fails =
    let e : n + 1 ≡ suc n = omega arith in
    subst (λ (k : ℕ). filter p (flat_map f (range_with_len 0 k)) ≡ []) e
    (ap (filter p) (flat_map-more f n) ∙ filter-append p (flat_map f (range_with_len 0 n)) (f n)
    ∙ ap (λ ys. filter p (flat_map f (range_with_len 0 n)) ++ ys) (fails n (omega arith))
    ∙ append-nil _ ∙ filter-no_piece p f n (λ i below. fails i (omega arith)))

-- of pieces of which those below hi keep something
pub filter-pieces : {X : Type 0} (p : X → Bool) (f g : ℕ → List X) (hi : ℕ) → ((i : ℕ) → i < hi → filter p (f i) ≡ g i)
    → ((i : ℕ) → hi ≤ i → filter p (f i) ≡ []) → (n : ℕ)
    → filter p (flat_map f (range_with_len 0 n)) ≡ flat_map g (range_with_len 0 (min hi n))
filter-pieces p f g hi passes fails zero =
    let none : 0 ≡ min hi 0 = omega arith in ap (λ k. flat_map g (range_with_len 0 k)) none
filter-pieces p f g hi passes fails (suc n) =
    let e : n + 1 ≡ suc n = omega arith in
    let so_far = filter-pieces p f g hi passes fails n in
    let split = ap (filter p) (flat_map-more f n) ∙ filter-append p (flat_map f (range_with_len 0 n)) (f n) in
    subst (λ (k : ℕ). filter p (flat_map f (range_with_len 0 k)) ≡ flat_map g (range_with_len 0 (min hi k))) e
    (⊎_elim
    (λ below.
    let before : min hi n ≡ n = omega arith in
    let after : n + 1 ≡ min hi (n + 1) = omega arith in
    split ∙ ap (λ ys. ys ++ filter p (f n)) (so_far ∙ ap (λ k. flat_map g (range_with_len 0 k)) before)
    ∙ ap (λ ys. flat_map g (range_with_len 0 n) ++ ys) (passes n below)
    ∙ sym (flat_map-more g n) ∙ ap (λ k. flat_map g (range_with_len 0 k)) after)
    (λ above.
    let same : min hi n ≡ min hi (n + 1) = omega arith in
    split ∙ ap (λ ys. ys ++ filter p (f n)) (so_far ∙ ap (λ k. flat_map g (range_with_len 0 k)) same)
    ∙ ap (λ ys. flat_map g (range_with_len 0 (min hi (n + 1))) ++ ys) (fails n above) ∙ append-nil _)
    (cases_lt n hi))

-- of pieces of which only number k keeps something
pub filter-one_piece : {X : Type 0} (p : X → Bool) (f : ℕ → List X) (k : ℕ) → ((i : ℕ) → i ≢ k → filter p (f i) ≡ [])
    → (n : ℕ) → k < n → filter p (flat_map f (range_with_len 0 n)) ≡ filter p (f k)
filter-one_piece p f k fails zero below = absurd (omega arith)
filter-one_piece p f k fails (suc n) below =
    let e : n + 1 ≡ suc n = omega arith in
    let split = ap (filter p) (flat_map-more f n) ∙ filter-append p (flat_map f (range_with_len 0 n)) (f n) in
    subst (λ (i : ℕ). filter p (flat_map f (range_with_len 0 i)) ≡ filter p (f k)) e
    (⊎_elim
    (λ earlier. split
    ∙ ap (λ ys. filter p (flat_map f (range_with_len 0 n)) ++ ys) (fails n (omega arith))
    ∙ append-nil _ ∙ filter-one_piece p f k fails n earlier)
    (λ last.
    let own : n ≡ k = omega arith in
    split
    ∙ ap (λ ys. ys ++ filter p (f n)) (filter-no_piece p f n (λ i lower. fails i (omega arith)))
    ∙ ap (λ i. filter p (f i)) own)
    (cases_lt k n))
