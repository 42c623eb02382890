-- The places of an erasure, made from the lost data and the kept parities, and taken apart into them.
use Rattle.std.proofs.Common.{◌≡◌, ℕ, ◌+◌, ◌-◌, ◌<◌, ◌≤◌, ◌⊎◌, List, [], ◌∷◌, ◌++◌, length, get_or, map, refl, sym, ◌∙◌}
use Rattle.std.proofs.Common.{ap, ap₂, subst, inl, inr, ⊎_elim, arith}
use Rattle.std.specs.Prelude.{Contains}
use Rattle.std.proofs.lemmas.Bool.{cases_lt}
use Rattle.std.proofs.lemmas.List.Kept.{AllPairs-from_increasing}
use Rattle.std.proofs.lemmas.List.{get_or_default, get_or_append_left, get_or-append_right, get_or-map, length-map}
use Rattle.std.proofs.Math.ListN.{length-append}
use Rattle.mf_lemmas.proofs.Lists.{contains_at, at_contains}
use Rattle.mf_lemmas.proofs.Rising.{Rises, rises_none, rises_cons, rises_tail, rises_wider}
use Rattle.mf_code.specs.Decodable.{IsPlaceSet, IsDecodable}
use Rattle.mf_matrix.specs.Tables.{OnlyZero}
use Rattle.mf_erasure.specs.Erasure.{entry, IsPlaces, IsErasure, IsComplement, Splits, others_from, places_of}
use Rattle.mf_erasure.proofs.Bridge.{only_zero_from_decodable}
use Rattle.mf_erasure.proofs.Others.{Has, Shares, others_share}

pub rises_from : (count : ℕ) (xs : List ℕ) → IsPlaces count xs → Rises 0 count xs
rises_from count xs p = record {
  from = λ j l. omega arith;
  below = λ j l. p.below j 0 l;
  rise = λ i j l m. AllPairs-from_increasing xs p.rising i j 0 l m;
}

pub places_from : (count : ℕ) (xs : List ℕ) → Rises 0 count xs → IsPlaces count xs
places_from count xs r = record {
  rising = λ k l. r.rise k (k + 1) (omega arith) l;
  below = λ k d l. subst (λ v. v < count) (get_or_default xs k 0 d l) (r.below k l);
}

has_from : (xs : List ℕ) (p : ℕ) → Has xs p → Contains xs p
has_from xs p h = subst (Contains xs) h.2 (at_contains xs h.0 h.1)

-- The numbers that a list of places leaves out are its complement.
pub others_complement : (count : ℕ) (ones : List ℕ) → IsPlaces count ones
    → IsComplement count ones (others_from 0 count ones)
others_complement count ones p = record {
  one_of = λ q l. ⊎_elim (λ h. inl (has_from ones q h)) (λ h. inr (has_from (others_from 0 count ones) q h))
      (shares.one_of q (omega arith) (omega arith));
  apart = λ q a b. (let i = contains_at ones q a in let j = contains_at (others_from 0 count ones) q b in
      shares.apart i.0 j.0 i.1 j.1 (i.2 ∙ sym j.2));
  lengths = let e = shares.lengths in omega arith;
  ones_places = p;
  others_places = places_from count (others_from 0 count ones)
      (subst (λ h. Rises 0 h (others_from 0 count ones)) e shares.rises);
}
  where
    e : 0 + count ≡ count
    e = omega arith

    shares : Shares 0 (0 + count) ones (others_from 0 count ones)
    shares = others_share count 0 ones (subst (λ h. Rises 0 h ones) (sym e) (rises_from count ones p))

pub complement_swap : (count : ℕ) (ones others : List ℕ) → IsComplement count ones others
    → IsComplement count others ones
complement_swap count ones others c = record {
  one_of = λ p l. ⊎_elim inr inl (c.one_of p l);
  apart = λ p a b. c.apart p b a;
  lengths = let e = c.lengths in omega arith;
  ones_places = c.others_places;
  others_places = c.ones_places;
}

-- the elements of the places of a stripe
place_low : (width : ℕ) (lost gone : List ℕ) (j : ℕ) → j < length lost → get_or (places_of width lost gone) j 0
    ≡ get_or lost j 0
place_low width lost gone j l = get_or_append_left lost (map (λ p. width + p) gone) 0 j l

place_high : (width : ℕ) (lost gone : List ℕ) (j : ℕ) → j < length gone
    → get_or (places_of width lost gone) (length lost + j) 0 ≡ width + get_or gone j 0
place_high width lost gone j l =
    get_or-append_right lost (map (λ p. width + p) gone) (length lost) (length lost + j) 0 refl (omega arith)
    ∙ ap (λ (i : ℕ). get_or (map (λ p. width + p) gone) i 0)
    (let e : length lost + j - length lost ≡ j = omega arith in e)
    ∙ get_or-map (λ p. width + p) gone j 0 0 l

pub length-places_of : (width : ℕ) (lost gone : List ℕ) → length (places_of width lost gone) ≡ length lost + length gone
length-places_of width lost gone = length-append lost (map (λ p. width + p) gone)
    ∙ ap (λ (n : ℕ). length lost + n) (length-map gone (λ p. width + p))

-- which places there are
place_is : (width : ℕ) (lost gone : List ℕ) (x : ℕ) → Contains (places_of width lost gone) x
    → Contains lost x ⊎ ((p : ℕ) × (x ≡ width + p) × Contains gone p)
place_is width lost gone x c =
    let k = contains_at (places_of width lost gone) x c in
    let len = length-places_of width lost gone in
    let below = k.1 in
    elim (cases_lt k.0 (length lost)) [
      | inl low ↦ inl (subst (Contains lost) (sym (place_low width lost gone k.0 low) ∙ k.2) (at_contains lost k.0 low))
      | inr high ↦
          (let j : ℕ = k.0 - length lost in
          let there : k.0 ≡ length lost + j = omega arith in
          let in_gone : j < length gone = omega arith in
          inr (
            get_or gone j 0,
            sym k.2 ∙ ap (λ (i : ℕ). get_or (places_of width lost gone) i 0) there
                ∙ place_high width lost gone j in_gone,
            at_contains gone j in_gone,
          ))
    ]

-- The places are split into the lost data and the complement of the parities that are gone.
pub splits_from : (width count : ℕ) (lost kept gone : List ℕ) → IsPlaces width lost → IsComplement count kept gone
    → length lost ≡ length kept
    → Splits width count (places_of width lost gone) lost kept
splits_from width count lost kept gone low c even = record {
  erasure = record { even = even; lost_places = low; kept_places = c.ones_places };
  data_in = λ t l h. ⊎_elim (λ x. x) (λ x. (let e : t ≡ width + x.0 = x.1 in absurd (omega arith)))
      (place_is width lost gone t h);
  lost_in = λ t h. (let k = contains_at lost t h in let len = length-places_of width lost gone in
      let l : k.0 < length lost = k.1 in
      subst (Contains (places_of width lost gone)) (place_low width lost gone k.0 k.1 ∙ k.2)
      (at_contains (places_of width lost gone) k.0 (omega arith)));
  parity_out = λ p l out. ⊎_elim (λ x. x) (λ x. absurd (out (gone_in p x))) (c.one_of p l);
  kept_out = λ p h there. ⊎_elim
      (λ x. (let k = contains_at lost (width + p) x in let b : get_or lost k.0 0 < width = low.below k.0 0 k.1 in
      let e = k.2 in omega arith))
      (λ x. (let e : p ≡ x.0 = (let s : width + p ≡ width + x.0 = x.1 in omega arith) in
      c.apart p h (subst (Contains gone) (sym e) x.2)))
      (place_is width lost gone (width + p) there);
}
  where
    gone_in : (p : ℕ) → Contains gone p → Contains (places_of width lost gone) (width + p)
    gone_in p h =
        let k = contains_at gone p h in
        let len = length-places_of width lost gone in
        let l : k.0 < length gone = k.1 in
        subst (Contains (places_of width lost gone)) (place_high width lost gone k.0 k.1 ∙ ap (λ q. width + q) k.2)
        (at_contains (places_of width lost gone) (length lost + k.0) (omega arith))

-- the places of an erasure rise
places_rise : (width count : ℕ) (lost gone : List ℕ) → IsPlaces width lost → IsPlaces count gone
    → Rises 0 (width + count) (places_of width lost gone)
places_rise width count lost gone low high = walk 0 lost (omega arith) (rises_from width lost low)
  where
    up : (at : ℕ) (xs : List ℕ) → at ≤ count → Rises at count xs
        → Rises (width + at) (width + count) (map (λ p. width + p) xs)
    up at [] l r = rises_none (width + at) (width + count)
    up at (x ∷ xs) l r =
        let a : at ≤ x = r.from 0 (omega arith) in
        let b : x < count = r.below 0 (omega arith) in
        rises_cons (width + at) (width + count) (width + x) (map (λ p. width + p) xs) (omega arith) (omega arith)
        (let e : width + (x + 1) ≡ width + x + 1 = omega arith in
        subst (λ h. Rises h (width + count) (map (λ p. width + p) xs)) e
        (up (x + 1) xs (omega arith) (rises_tail at count x xs r)))

    top : (at : ℕ) → at ≤ width → Rises at (width + count) (map (λ p. width + p) gone)
    top at l = rises_wider (width + 0) at (width + count) (map (λ p. width + p) gone) (omega arith)
        (up 0 gone (omega arith) (rises_from count gone high))

    walk : (at : ℕ) (xs : List ℕ) → at ≤ width → Rises at width xs
        → Rises at (width + count) (xs ++ map (λ p. width + p) gone)
    walk at [] l r = top at l
    walk at (x ∷ xs) l r =
        let a : at ≤ x = r.from 0 (omega arith) in
        let b : x < width = r.below 0 (omega arith) in
        rises_cons at (width + count) x (xs ++ map (λ p. width + p) gone) a (omega arith)
        (walk (x + 1) xs (omega arith) (rises_tail at width x xs r))

-- The places of an erasure are a set of as many places as the stripe has parities.
pub place_set_from : (width count : ℕ) (lost kept gone : List ℕ) → IsPlaces width lost → IsComplement count kept gone
    → length lost ≡ length kept
    → IsPlaceSet (width + count) count (places_of width lost gone)
place_set_from width count lost kept gone low c even = record {
  len = let a = length-places_of width lost gone in let b = c.lengths in omega arith;
  ascending = places.rising;
  below = places.below;
}
  where
    places : IsPlaces (width + count) (places_of width lost gone)
    places = places_from (width + count) (places_of width lost gone)
        (places_rise width count lost gone low c.others_places)

-- Where every set of places is decodable, the matrix of every erasure sends only the zero list to zero.
pub only_zero_of_erasure : (width : ℕ) (points lost kept : List ℕ) → IsDecodable points width
    → IsErasure width (length points) lost kept
    → OnlyZero (length lost) (entry points lost kept)
only_zero_of_erasure width points lost kept all e =
    let gone = others_from 0 (length points) kept in
    let c : IsComplement (length points) kept gone = others_complement (length points) kept e.kept_places in
    only_zero_from_decodable width points (places_of width lost gone) lost kept
    (splits_from width (length points) lost kept gone e.lost_places c e.even)
    (all.each (places_of width lost gone) (place_set_from width (length points) lost kept gone e.lost_places c e.even))

-- rising places, taken apart into data places and the parities that are gone
pub record TakenApart (width count low : ℕ) (places lost gone : List ℕ) : Type 0 where
  pub made : places ≡ places_of width lost gone
  pub lost_rise : Rises low width lost
  pub gone_rise : Rises 0 count gone

pub take_apart : (width count low : ℕ) (places : List ℕ) → Rises low (width + count) places
    → (lost : List ℕ) × (gone : List ℕ) × TakenApart width count low places lost gone
take_apart width count low [] r =
    ([], [], record { made = refl; lost_rise = rises_none low width; gone_rise = rises_none 0 count })
take_apart width count low (x ∷ xs) r = elim (cases_lt x width) [
  | inl below ↦
      (let rest = take_apart width count (x + 1) xs (rises_tail low (width + count) x xs r) in (
        x ∷ rest.0,
        rest.1,
        record {
          made = ap (λ (ys : List ℕ). x ∷ ys) rest.2.made;
          lost_rise = rises_cons low width x rest.0 (r.from 0 (omega arith)) below rest.2.lost_rise;
          gone_rise = rest.2.gone_rise;
        },
      ))
  | inr above ↦
      (let high = lowered (x ∷ xs) 0 (raised (x ∷ xs) r above) in (
        [],
        map (λ p. p - width) (x ∷ xs),
        record { made = high.0; lost_rise = rises_none low width; gone_rise = high.1 },
      ))
]
  where
    raised : (ys : List ℕ) → Rises low (width + count) ys → width ≤ get_or ys 0 0 → Rises (width + 0) (width + count) ys
    raised [] s l = rises_none (width + 0) (width + count)
    raised (y ∷ ys) s l = rises_cons (width + 0) (width + count) y ys (omega arith) (s.below 0 (omega arith))
        (rises_tail low (width + count) y ys s)

    lowered : (ys : List ℕ) (at : ℕ) → Rises (width + at) (width + count) ys
        → (ys ≡ map (λ p. width + p) (map (λ p. p - width) ys)) × Rises at count (map (λ p. p - width) ys)
    lowered [] at s = (refl, rises_none at count)
    lowered (y ∷ ys) at s =
        let a : width + at ≤ y = s.from 0 (omega arith) in
        let b : y < width + count = s.below 0 (omega arith) in
        let e : y + 1 ≡ width + (y - width + 1) = omega arith in
        let rest = lowered ys (y - width + 1)
        (subst (λ h. Rises h (width + count) ys) e (rises_tail (width + at) (width + count) y ys s)) in (
          ap₂ (λ (z : ℕ) (zs : List ℕ). z ∷ zs) (let f : y ≡ width + (y - width) = omega arith in f) rest.0,
          rises_cons at count (y - width) (map (λ p. p - width) ys) (omega arith) (omega arith) rest.1,
        )

-- Every set of as many places as there are parities belongs to one erasure: its data places are lost, and the parities
-- that
-- are not in it are kept.
pub erasure_of_set : (width count : ℕ) (places : List ℕ) → IsPlaceSet (width + count) count places
    → (lost : List ℕ) × (gone : List ℕ) × (places ≡ places_of width lost gone) × Splits width count places lost
    (others_from 0 count gone)
erasure_of_set width count places p =
    let apart = take_apart width count 0 places
    (rises_from (width + count) places (record { rising = p.ascending; below = p.below })) in
    let t = apart.2 in
    let c : IsComplement count apart.1 (others_from 0 count apart.1) = others_complement count apart.1
    (places_from count apart.1 t.gone_rise) in
    let lengths = c.lengths in
    let len = p.len in
    let made = ap length t.made in
    let parts = length-places_of width apart.0 apart.1 in (
      apart.0,
      apart.1,
      t.made,
      subst (λ (xs : List ℕ). Splits width count xs apart.0 (others_from 0 count apart.1)) (sym t.made)
          (splits_from width count apart.0 (others_from 0 count apart.1) apart.1
          (places_from width apart.0 t.lost_rise) (complement_swap count apart.1 (others_from 0 count apart.1) c)
          (omega arith)),
    )

-- Every erasure belongs to a set of as many places as there are parities.
pub set_of_erasure : (width count : ℕ) (lost kept : List ℕ) → IsErasure width count lost kept
    → (places : List ℕ) × IsPlaceSet (width + count) count places × Splits width count places lost kept
set_of_erasure width count lost kept e =
    let gone = others_from 0 count kept in
    let c : IsComplement count kept gone = others_complement count kept e.kept_places in (
      places_of width lost gone,
      place_set_from width count lost kept gone e.lost_places c e.even,
      splits_from width count lost kept gone e.lost_places c e.even,
    )
