-- The names of one stripe are what a generation holds in it.
use Rattle.std.proofs.Common.{◌≡◌, ◌≢◌, ℕ, suc, ◌+◌, ◌-◌, ◌*◌, ◌/◌, ◌<◌, ◌≤◌, ◌⊎◌, min, Bool, true, false, ◌&&◌, eqb}
use Rattle.std.proofs.Common.{ltb, List, [], ◌++◌, length, map, filter, refl, ap, ap₂, ◌∙◌, sym, inl, inr, ⊎_elim}
use Rattle.std.proofs.Common.{arith}
use Rattle.std.proofs.Math.Nat.{mul-le-mul_right, mod-lt, div-add-mod'}
use Rattle.std.proofs.lemmas.Bool.{cases_lt, cases_eq, and_from, and_left, and_right, lt-ltb, le-ltb, eq-eqb, ne_eqb}
use Rattle.std.proofs.lemmas.List.{append_assoc}
use Rattle.std.proofs.lemmas.List.Elements.{filter-append}
use Rattle.std.proofs.lemmas.Grind.{div_ceil_times}
use Rattle.std.specs.List.{flat_map, range_with_len}
use Rattle.mf_shape.specs.Stages.{width_at, parities_at, copies_at, max_width}
use Rattle.mf_places.specs.declared.Name.{Name}
use Rattle.mf_places.specs.declared.Name.TheVariants as name
use Rattle.mf_places.specs.Facts.{BookFacts, IsBook, chunks_of}
use Rattle.mf_places.specs.Names.{stripes_of, parities_of, data_names, copies_named, copy_names, stripe_parities}
use Rattle.mf_places.specs.Names.{width_parities, parity_names, all_names}
use Rattle.mf_places.specs.Generations.{holds_in, pieces_of, data_of_stripe, copy_of_stripe, copies_of_stripe}
use Rattle.mf_places.specs.Generations.{parities_of_stripe, stripe_names}
use Rattle.mf_places.proofs.Counts.{parities_at-le-max}
use Rattle.mf_places.proofs.Held.{copies_at-le-first}
use Rattle.mf_places.proofs.Ranges.{flat_map-more}
use Rattle.mf_places.proofs.Filters.{filter-run, filter-no_piece, filter-pieces, filter-one_piece}
use Rattle.mf_shape.proofs.Widths.{width_at-le-max_width}

-- ---- which numbers have a quotient

quotient-at_least : (i j k : ℕ) → 0 < k → j * k ≤ i → j ≤ i / k
quotient-at_least i j k pos h = ⊎_elim
    (λ less.
    let more : suc (i / k) * k ≤ j * k = mul-le-mul_right k less in
    let at = div-add-mod' i k in
    let low = mod-lt i pos in
    absurd (omega arith))
    (λ fine. fine)
    (cases_lt (i / k) j)

quotient-at_most : (i j k : ℕ) → 0 < k → i < j * k + k → i / k ≤ j
quotient-at_most i j k pos h = ⊎_elim
    (λ less.
    let more : suc j * k ≤ i / k * k = mul-le-mul_right k less in
    let at = div-add-mod' i k in
    absurd (omega arith))
    (λ fine. fine)
    (cases_lt j (i / k))

quotient-is : (i j k : ℕ) → 0 < k → j * k ≤ i → i < j * k + k → i / k ≡ j
quotient-is i j k pos low high = omega (arith, quotient-at_least i j k pos low, quotient-at_most i j k pos high)

quotient-low : (i j k : ℕ) → 0 < k → i / k ≡ j → j * k ≤ i
quotient-low i j k pos e =
    let at = div-add-mod' i k in
    let same : i / k * k ≡ j * k = ap (λ q. q * k) e in
    omega arith

quotient-high : (i j k : ℕ) → 0 < k → i / k ≡ j → i < j * k + k
quotient-high i j k pos e =
    let at = div-add-mod' i k in
    let low = mod-lt i pos in
    let same : i / k * k ≡ j * k = ap (λ q. q * k) e in
    omega arith

-- ---- which chunks are in a stripe

-- the first chunk of stripe j of generation g
abbrev stripe_start : BookFacts → ℕ → ℕ → ℕ
stripe_start b g j = j * width_at b.shape.stages g

-- the first chunk behind it
abbrev stripe_end : BookFacts → ℕ → ℕ → ℕ
stripe_end b g j = min ((j + 1) * width_at b.shape.stages g) (chunks_of b)

-- chunk i is one of stripe j
abbrev in_stripe : BookFacts → ℕ → ℕ → ℕ → Bool
in_stripe b g j i = ltb i (chunks_of b) && eqb (i / width_at b.shape.stages g) j

in_stripe-yes : (b : BookFacts) (g j i : ℕ) → 0 < width_at b.shape.stages g → stripe_start b g j ≤ i
    → i < stripe_end b g j → in_stripe b g j i ≡ true
in_stripe-yes b g j i pos low high =
    and_from _ _ (lt-ltb i (chunks_of b) (omega arith))
    (eq-eqb _ j (quotient-is i j (width_at b.shape.stages g) pos low (omega arith)))

in_stripe-no : (b : BookFacts) (g j i : ℕ) → 0 < width_at b.shape.stages g
    → (i < stripe_start b g j) ⊎ (stripe_end b g j ≤ i) → in_stripe b g j i ≡ false
in_stripe-no b g j i pos out = ⊎_elim
    (λ within. and_right _ _ (ne_eqb _ j (λ e.
    let low = quotient-low i j (width_at b.shape.stages g) pos e in
    let high = quotient-high i j (width_at b.shape.stages g) pos e in
    ⊎_elim (λ before. absurd (omega arith)) (λ behind. absurd (omega arith)) out)))
    (λ past. and_left _ _ (le-ltb i (chunks_of b) past))
    (cases_lt i (chunks_of b))

-- the run that passes ends at the stripe's end
run-end : (b : BookFacts) (g j : ℕ) → min (stripe_end b g j) (chunks_of b) - stripe_start b g j
    ≡ stripe_end b g j - stripe_start b g j
run-end b g j = omega arith

-- ---- data

pub stripe-data : (b : BookFacts) (g j : ℕ) → 0 < width_at b.shape.stages g
    → filter (holds_in b g j) (data_names b) ≡ data_of_stripe b g j
unfolding data_names
stripe-data b g j pos =
    filter-run (holds_in b g j) (λ i. name.Data i) (stripe_start b g j) (stripe_end b g j)
    (λ i low high. in_stripe-yes b g j i pos low high) (λ i out. in_stripe-no b g j i pos out) (chunks_of b)
    ∙ ap (λ k. map (λ i. name.Data i) (range_with_len (stripe_start b g j) k)) (run-end b g j)

-- ---- copies

copy-yes : (c : ℕ) (held within quotient : Bool) → held ≡ true → (within && quotient) ≡ true
    → (held && within && quotient) ≡ true
copy-yes c held within quotient h in_it = grind arith

copy-no : (held within quotient : Bool) → (within && quotient) ≡ false → (held && within && quotient) ≡ false
copy-no held within quotient out = grind arith

stripe-copy : (b : BookFacts) (g j c : ℕ) → 0 < width_at b.shape.stages g → c < copies_at b.shape.stages g
    → filter (holds_in b g j) (copies_named b c) ≡ copy_of_stripe b g j c
unfolding copies_named
stripe-copy b g j c pos held =
    filter-run (holds_in b g j) (λ i. name.Copy c i) (stripe_start b g j) (stripe_end b g j)
    (λ i low high. copy-yes c (ltb c (copies_at b.shape.stages g)) (ltb i (chunks_of b))
    (eqb (i / width_at b.shape.stages g) j) (lt-ltb c _ held) (in_stripe-yes b g j i pos low high))
    (λ i out. copy-no (ltb c (copies_at b.shape.stages g)) (ltb i (chunks_of b)) (eqb (i / width_at b.shape.stages g) j)
    (in_stripe-no b g j i pos out)) (chunks_of b)
    ∙ ap (λ k. map (λ i. name.Copy c i) (range_with_len (stripe_start b g j) k)) (run-end b g j)

-- a run of which nothing passes
none-pass : {X : Type 0} (p : X → Bool) (f : ℕ → X) → ((i : ℕ) → p (f i) ≡ false) → (n : ℕ)
    → filter p (map f (range_with_len 0 n)) ≡ []
none-pass p f fails n =
    let none : min 0 n - 0 ≡ 0 = omega arith in
    filter-run p f 0 0 (λ i low high. absurd (omega arith)) (λ i out. fails i) n
    ∙ ap (λ k. map f (range_with_len 0 k)) none

stripe-no_copy : (b : BookFacts) (g j c : ℕ) → copies_at b.shape.stages g ≤ c
    → filter (holds_in b g j) (copies_named b c) ≡ []
unfolding copies_named
stripe-no_copy b g j c past =
    none-pass (holds_in b g j) (λ i. name.Copy c i) (λ i. and_left _ _ (and_left _ _ (le-ltb c _ past))) (chunks_of b)

pub stripe-copies : (b : BookFacts) (g j : ℕ) → 0 < width_at b.shape.stages g
    → copies_at b.shape.stages g ≤ copies_at b.shape.stages 0
    → filter (holds_in b g j) (copy_names b) ≡ copies_of_stripe b g j
unfolding copy_names
stripe-copies b g j pos fewer =
    let few : min (copies_at b.shape.stages g) (copies_at b.shape.stages 0) ≡ copies_at b.shape.stages g =
    omega arith in
    filter-pieces (holds_in b g j) (copies_named b) (copy_of_stripe b g j) (copies_at b.shape.stages g)
    (λ c held. stripe-copy b g j c pos held) (λ c past. stripe-no_copy b g j c past) (copies_at b.shape.stages 0)
    ∙ ap (λ k. flat_map (copy_of_stripe b g j) (range_with_len 0 k)) few

-- ---- parities

-- p of stripe i of width w
parity-other : (b : BookFacts) (g j w i p : ℕ) → (w ≢ width_at b.shape.stages g) ⊎ (i ≢ j)
    → holds_in b g j (name.Parity w i p) ≡ false
parity-other b g j w i p other = ⊎_elim
    (λ wide. and_left _ _ (and_left _ _ (and_left _ _ (ne_eqb w _ wide))))
    (λ beside. and_right _ _ (ne_eqb i j beside))
    other

stripe-other : (b : BookFacts) (g j w i : ℕ) → (w ≢ width_at b.shape.stages g) ⊎ (i ≢ j)
    → filter (holds_in b g j) (stripe_parities b w i) ≡ []
unfolding stripe_parities
stripe-other b g j w i other =
    none-pass (holds_in b g j) (λ p. name.Parity w i p) (λ p. parity-other b g j w i p other) (parities_of b w)

width-other : (b : BookFacts) (g j w : ℕ) → w ≢ width_at b.shape.stages g
    → filter (holds_in b g j) (width_parities b w) ≡ []
unfolding width_parities
width-other b g j w other =
    filter-no_piece (holds_in b g j) (stripe_parities b w) (stripes_of b w)
    (λ i below. stripe-other b g j w i (inl other))

-- the parities of the stripe itself
stripe-own : (b : BookFacts) (g j : ℕ) → j < stripes_of b (width_at b.shape.stages g)
    → parities_at b.shape.stages g ≤ parities_of b (width_at b.shape.stages g)
    → filter (holds_in b g j) (stripe_parities b (width_at b.shape.stages g) j) ≡ parities_of_stripe b g j
unfolding stripe_parities
stripe-own b g j below few =
    let count : min (parities_at b.shape.stages g) (parities_of b (width_at b.shape.stages g)) - 0
    ≡ parities_at b.shape.stages g = omega arith in
    filter-run (holds_in b g j) (λ p. name.Parity (width_at b.shape.stages g) j p) 0 (parities_at b.shape.stages g)
    (λ p low high. and_from _ _ (and_from _ _ (and_from _ _ (eq-eqb _ _ refl) (lt-ltb j _ below)) (lt-ltb p _ high))
    (eq-eqb j j refl))
    (λ p out. and_left _ _ (and_right _ _ (le-ltb p _ (⊎_elim (λ low. absurd (omega arith)) (λ high. high) out))))
    (parities_of b (width_at b.shape.stages g))
    ∙ ap (λ k. map (λ p. name.Parity (width_at b.shape.stages g) j p) (range_with_len 0 k)) count

width-own : (b : BookFacts) (g j : ℕ) → j < stripes_of b (width_at b.shape.stages g)
    → parities_at b.shape.stages g ≤ parities_of b (width_at b.shape.stages g)
    → filter (holds_in b g j) (width_parities b (width_at b.shape.stages g)) ≡ parities_of_stripe b g j
unfolding width_parities
width-own b g j below few =
    filter-one_piece (holds_in b g j) (stripe_parities b (width_at b.shape.stages g)) j
    (λ i other. stripe-other b g j (width_at b.shape.stages g) i (inr other))
    (stripes_of b (width_at b.shape.stages g)) below
    ∙ stripe-own b g j below few

pub stripe-parities : (b : BookFacts) (g j : ℕ) → width_at b.shape.stages g ≤ max_width b.shape.stages
    → j < stripes_of b (width_at b.shape.stages g)
    → parities_at b.shape.stages g ≤ parities_of b (width_at b.shape.stages g)
    → filter (holds_in b g j) (parity_names b) ≡ parities_of_stripe b g j
unfolding parity_names
stripe-parities b g j wide below few =
    filter-one_piece (holds_in b g j) (width_parities b) (width_at b.shape.stages g)
    (λ w other. width-other b g j w other) (max_width b.shape.stages + 1) (omega arith)
    ∙ width-own b g j below few

-- ---- the whole stripe

pub stripe_names-is : (b : BookFacts) → IsBook b → (g j : ℕ) → g < length b.shape.stages
    → j < stripes_of b (width_at b.shape.stages g)
    → filter (holds_in b g j) (all_names b) ≡ stripe_names b g j
unfolding all_names stripe_names
stripe_names-is b book g j stage below =
    let chain = book.shape.chain in
    let pos = (chain.widths g stage).0 in
    let p = holds_in b g j in
    filter-append p (data_names b ++ copy_names b) (parity_names b)
    ∙ ap (λ ys. ys ++ filter p (parity_names b)) (filter-append p (data_names b) (copy_names b)
    ∙ ap (λ ys. ys ++ filter p (copy_names b)) (stripe-data b g j pos)
    ∙ ap (λ ys. data_of_stripe b g j ++ ys) (stripe-copies b g j pos (copies_at-le-first chain g stage)))
    ∙ ap (λ ys. data_of_stripe b g j ++ copies_of_stripe b g j ++ ys)
    (stripe-parities b g j (width_at-le-max_width b.shape.stages g stage) below
    (parities_at-le-max b.shape.stages g stage))

-- ---- a stripe that the file has not

past-in : (b : BookFacts) (g j i : ℕ) → 0 < width_at b.shape.stages g → stripes_of b (width_at b.shape.stages g) ≤ j
    → in_stripe b g j i ≡ false
past-in b g j i pos past =
    let k = width_at b.shape.stages g in
    let times = (div_ceil_times (chunks_of b) k pos).0 in
    let more : stripes_of b k * k ≤ j * k = mul-le-mul_right k past in
    ⊎_elim
    (λ within. and_right _ _ (ne_eqb _ j (λ e. let low = quotient-low i j k pos e in absurd (omega arith))))
    (λ out. and_left _ _ (le-ltb i (chunks_of b) out))
    (cases_lt i (chunks_of b))

past-data : (b : BookFacts) (g j : ℕ) → 0 < width_at b.shape.stages g → stripes_of b (width_at b.shape.stages g) ≤ j
    → filter (holds_in b g j) (data_names b) ≡ []
unfolding data_names
past-data b g j pos past = none-pass (holds_in b g j) (λ i. name.Data i) (λ i. past-in b g j i pos past) (chunks_of b)

past-copy : (b : BookFacts) (g j c : ℕ) → 0 < width_at b.shape.stages g → stripes_of b (width_at b.shape.stages g) ≤ j
    → filter (holds_in b g j) (copies_named b c) ≡ []
unfolding copies_named
past-copy b g j c pos past =
    none-pass (holds_in b g j) (λ i. name.Copy c i)
    (λ i. copy-no (ltb c (copies_at b.shape.stages g)) (ltb i (chunks_of b)) (eqb (i / width_at b.shape.stages g) j)
    (past-in b g j i pos past)) (chunks_of b)

past-copies : (b : BookFacts) (g j : ℕ) → 0 < width_at b.shape.stages g → stripes_of b (width_at b.shape.stages g) ≤ j
    → filter (holds_in b g j) (copy_names b) ≡ []
unfolding copy_names
past-copies b g j pos past =
    filter-no_piece (holds_in b g j) (copies_named b) (copies_at b.shape.stages 0)
    (λ c below. past-copy b g j c pos past)

past-width : (b : BookFacts) (g j w : ℕ) → stripes_of b (width_at b.shape.stages g) ≤ j
    → filter (holds_in b g j) (width_parities b w) ≡ []
unfolding width_parities
past-width b g j w past =
    filter-no_piece (holds_in b g j) (stripe_parities b w) (stripes_of b w) (λ i below. stripe-other b g j w i (⊎_elim
    (λ own. inr (λ e.
    let same : stripes_of b w ≡ stripes_of b (width_at b.shape.stages g) = ap (stripes_of b) own in
    absurd (omega arith)))
    (λ other. inl other)
    (cases_eq w (width_at b.shape.stages g))))

past-parities : (b : BookFacts) (g j : ℕ) → stripes_of b (width_at b.shape.stages g) ≤ j
    → filter (holds_in b g j) (parity_names b) ≡ []
unfolding parity_names
past-parities b g j past =
    filter-no_piece (holds_in b g j) (width_parities b) (max_width b.shape.stages + 1)
    (λ w below. past-width b g j w past)

pub stripe_names-past : (b : BookFacts) → IsBook b → (g j : ℕ) → g < length b.shape.stages
    → stripes_of b (width_at b.shape.stages g) ≤ j
    → filter (holds_in b g j) (all_names b) ≡ []
unfolding all_names
stripe_names-past b book g j stage past =
    let pos = (book.shape.chain.widths g stage).0 in
    let p = holds_in b g j in
    filter-append p (data_names b ++ copy_names b) (parity_names b)
    ∙ ap (λ ys. ys ++ filter p (parity_names b)) (filter-append p (data_names b) (copy_names b)
    ∙ ap (λ ys. ys ++ filter p (copy_names b)) (past-data b g j pos past)
    ∙ ap (λ ys. [] ++ ys) (past-copies b g j pos past))
    ∙ ap (λ ys. [] ++ ys) (past-parities b g j past)

-- ---- a loop that lists a stripe

-- one copy more of each of its chunks
pub copies-more : (b : BookFacts) (g j c from count : ℕ) (found next : List Name) → from ≡ j * width_at b.shape.stages g
    → count ≡ pieces_of b g j
    → found ≡ data_of_stripe b g j ++ flat_map (copy_of_stripe b g j) (range_with_len 0 c)
    → next ≡ found ++ map (λ i. name.Copy c i) (range_with_len from count)
    → next ≡ data_of_stripe b g j ++ flat_map (copy_of_stripe b g j) (range_with_len 0 (c + 1))
copies-more b g j c from count found next starts counts so_far is =
    is ∙ ap₂ (λ xs ys. xs ++ ys) so_far (ap₂ (λ k n. map (λ i. name.Copy c i) (range_with_len k n)) starts counts)
    ∙ append_assoc (data_of_stripe b g j) (flat_map (copy_of_stripe b g j) (range_with_len 0 c))
    (copy_of_stripe b g j c)
    ∙ ap (λ ys. data_of_stripe b g j ++ ys) (sym (flat_map-more (copy_of_stripe b g j) c))

-- the parities behind all copies
pub stripe_names-made : (b : BookFacts) (g j n k r : ℕ) (found next : List Name) → n ≡ copies_at b.shape.stages g
    → k ≡ width_at b.shape.stages g → r ≡ parities_at b.shape.stages g
    → found ≡ data_of_stripe b g j ++ flat_map (copy_of_stripe b g j) (range_with_len 0 n)
    → next ≡ found ++ map (λ p. name.Parity k j p) (range_with_len 0 r)
    → next ≡ stripe_names b g j
unfolding stripe_names
stripe_names-made b g j n k r found next copies width parities so_far is =
    is ∙ ap (λ ys. ys ++ map (λ p. name.Parity k j p) (range_with_len 0 r)) (so_far
    ∙ ap (λ i. data_of_stripe b g j ++ flat_map (copy_of_stripe b g j) (range_with_len 0 i)) copies)
    ∙ ap (λ i. data_of_stripe b g j ++ copies_of_stripe b g j
    ++ map (λ p. name.Parity i j p) (range_with_len 0 r)) width
    ∙ ap (λ i. data_of_stripe b g j ++ copies_of_stripe b g j
    ++ map (λ p. name.Parity (width_at b.shape.stages g) j p) (range_with_len 0 i)) parities
