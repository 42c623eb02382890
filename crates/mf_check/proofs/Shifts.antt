-- Sets of places that begin behind the first data place say no more than those that begin with it: a row of the matrix
-- of a
-- set is a multiple of the row of the set with its data places moved to the front.
use Rattle.std.proofs.Common.{◌≡◌, ℕ, ◌+◌, ◌-◌, ◌<◌, ◌≤◌, inl, inr, List, [], ◌∷◌, length, map, get_or, sym, ap, subst}
use Rattle.std.proofs.Common.{◌∙◌, arith}
use Rattle.std.proofs.lemmas.List.{length-map, get_or-map}
use Rattle.std.proofs.lemmas.Bool.{cases_eq}
use Rattle.mf_code.specs.Field.{times, power}
use Rattle.mf_code.specs.Sums.{sum_below}
use Rattle.mf_code.specs.Decodable.{IsPlaceSet, IsDecodableAt}
use Rattle.mf_code.proofs.Sums.{sum_below-same, sum_below-lt}
use Rattle.mf_field.proofs.FieldLaws.{times-lt, times_assoc, times-eq-zero}
use Rattle.mf_field.proofs.Powers.{power-add, power-lt, power-pos}
use Rattle.mf_field.proofs.SumLaws.{times_sum}
use Rattle.mf_matrix.specs.Tables.{OnlyZero}
use Rattle.mf_erasure.specs.Erasure.{entry, IsPlaces, IsComplement, others_from, places_of, Splits}
use Rattle.mf_lemmas.proofs.Rising.{Rises}
use Rattle.mf_erasure.proofs.Places.{places_from, rises_from, others_complement, complement_swap, splits_from}
use Rattle.mf_erasure.proofs.Places.{place_set_from, length-places_of, take_apart}
use Rattle.mf_erasure.proofs.Bridge.{only_zero_from_decodable, decodable_from_only_zero}

-- the places moved to the front by b
abbrev moved : ℕ → List ℕ → List ℕ
moved b lost = map (λ t. t - b) lost

moved_at : (b : ℕ) (lost : List ℕ) (j : ℕ) → j < length lost → get_or (moved b lost) j 0 ≡ get_or lost j 0 - b
moved_at b lost j lt = get_or-map (λ t. t - b) lost j 0 0 lt

moved_rise : (width b : ℕ) (lost : List ℕ) → Rises 0 width lost → ((j : ℕ) → j < length lost → b ≤ get_or lost j 0)
    → Rises 0 width (moved b lost)
moved_rise width b lost r above =
    let len : length (moved b lost) ≡ length lost = length-map lost (λ t. t - b) in
    record {
      from = λ j l. omega arith;
      below = λ j l. (let e = moved_at b lost j (omega arith) in let h = r.below j (omega arith) in omega arith);
      rise = λ i j l m.
          (let ei = moved_at b lost i (omega arith) in let ej = moved_at b lost j (omega arith) in
          let h = r.rise i j l (omega arith) in let a = above i (omega arith) in omega arith);
    }

-- a product of sums that is zero beside a factor that isn't
zero_row : (n u : ℕ) (f x : ℕ → ℕ) → 0 < u → u < 256 → ((j : ℕ) → f j < 256) → ((j : ℕ) → x j < 256)
    → sum_below n (λ j. times (times u (f j)) (x j)) ≡ 0 → sum_below n (λ j. times (f j) (x j)) ≡ 0
zero_row n u f x pos lu lf lx zeros = elim (times-eq-zero u (sum_below n (λ j. times (f j) (x j))) lu
    (sum_below-lt n (λ j. times (f j) (x j)) (λ j l. times-lt (f j) (x j) (lf j) (lx j)))
    (times_sum u n (λ j. times (f j) (x j))
    ∙ sum_below-same n (λ j. times u (times (f j) (x j))) (λ j. times (times u (f j)) (x j))
    (λ j l. sym (times_assoc u (f j) (x j) lu (lf j) (lx j)))
    ∙ zeros)) [
      | inl none ↦ absurd (omega arith)
      | inr none ↦ none
    ]

module _ (points : List ℕ) (width : ℕ) (bytes : (i : ℕ) → get_or points i 0 < 256)
    (nonzero : (i : ℕ) → i < length points → 0 < get_or points i 0) where
  -- the matrix of the moved set sends no other list to zero, so the matrix of the set does not either
  OnlyZero-moved : (b : ℕ) (lost kept : List ℕ) → ((j : ℕ) → j < length lost → b ≤ get_or lost j 0)
      → ((i : ℕ) → i < length lost → get_or kept i 0 < length points)
      → OnlyZero (length lost) (entry points (moved b lost) kept) → OnlyZero (length lost) (entry points lost kept)
  OnlyZero-moved b lost kept above within only x lx rows =
      only x lx (λ i li.
      let point = get_or points (get_or kept i 0) 0 in
      let lp : point < 256 = bytes (get_or kept i 0) in
      zero_row (length lost) (power point b) (λ j. power point (get_or (moved b lost) j 0)) x
      (power-pos point b (nonzero (get_or kept i 0) (within i li)) lp) (power-lt point b lp)
      (λ j. power-lt point (get_or (moved b lost) j 0) lp) lx
      (sum_below-same (length lost)
      (λ j. times (times (power point b) (power point (get_or (moved b lost) j 0))) (x j))
      (λ j. times (entry points lost kept i j) (x j))
      (λ j lj. ap (λ v. times v (x j))
      (sym (power-add point b (get_or (moved b lost) j 0) lp)
      ∙ ap (power point) (let e = moved_at b lost j lj in let a = above j lj in let g : b + get_or (moved b lost) j 0
      ≡ get_or lost j 0 = omega arith in g)))
      ∙ rows i li))

  -- where every set that begins with place 0 is decodable, every set is
  pub decodable_from_first :
      ((s : List ℕ) → IsPlaceSet (width + length points) (length points) s → get_or s 0 0 ≡ 0
      → IsDecodableAt points width s)
      → (s : List ℕ) → IsPlaceSet (width + length points) (length points) s → IsDecodableAt points width s
  decodable_from_first first s set =
      let count = length points in
      let apart = take_apart width count 0 s
      (rises_from (width + count) s (record { rising = set.ascending; below = set.below })) in
      let t = apart.2 in
      subst (IsDecodableAt points width) (sym t.made)
      (parted apart.0 apart.1 t.lost_rise t.gone_rise (sym (ap length t.made) ∙ set.len))
    where
      only : (lost gone kept : List ℕ) → Rises 0 width lost → IsComplement (length points) kept gone
          → length lost ≡ length kept → OnlyZero (length lost) (entry points lost kept)
      only [] gone kept lost_rise both even = λ x lx rows j lt. absurd (omega arith)
      only (b ∷ lost) gone kept lost_rise both even =
          let count = length points in
          let all = b ∷ lost in
          let low : List ℕ = moved b all in
          let above : (j : ℕ) → j < length all → b ≤ get_or all j 0 = λ j l. elim (cases_eq j 0) [
            | inl z ↦ (let e : get_or all j 0 ≡ b = ap (λ (m : ℕ). get_or all m 0) z in omega arith)
            | inr n ↦ (let h = lost_rise.rise 0 j (omega arith) l in omega arith)
          ] in
          let low_places : IsPlaces width low = places_from width low (moved_rise width b all lost_rise above) in
          let len : length low ≡ length all = length-map all (λ t. t - b) in
          let low_even : length low ≡ length kept = len ∙ even in
          let splits : Splits width count (places_of width low gone) low kept = splits_from width count low kept gone
          low_places both low_even in
          let decodable : IsDecodableAt points width (places_of width low gone) =
          first (places_of width low gone) (place_set_from width count low kept gone low_places both low_even)
          (let e : b - b ≡ 0 = omega arith in e) in
          let zeros : OnlyZero (length low) (entry points low kept) = only_zero_from_decodable width points
          (places_of width low gone) low kept splits decodable in
          OnlyZero-moved b all kept above
          (λ i l. (rises_from count kept both.ones_places).below i (let k : i < length kept = omega arith in k))
          (subst (λ n. OnlyZero n (entry points low kept)) len zeros)

      parted : (lost gone : List ℕ) → Rises 0 width lost → Rises 0 (length points) gone
          → length (places_of width lost gone) ≡ length points
          → IsDecodableAt points width (places_of width lost gone)
      parted lost gone lost_rise gone_rise len =
          let count = length points in
          let kept = others_from 0 count gone in
          let both : IsComplement count kept gone = complement_swap count gone kept
          (others_complement count gone (places_from count gone gone_rise)) in
          let even : length lost ≡ length kept =
          (let a = length-places_of width lost gone in let e = both.lengths in omega arith) in
          let splits : Splits width count (places_of width lost gone) lost kept =
          splits_from width count lost kept gone (places_from width lost lost_rise) both even in
          decodable_from_only_zero width points (places_of width lost gone) lost kept splits
          (only lost gone kept lost_rise both even)
