-- The parities of the narrow stripes that a file has, merged, are the parity of the wide stripe.
use Rattle.std.proofs.Common.{◌≡◌, ℕ, ◌+◌, ◌-◌, ◌*◌, ◌<◌, ◌≤◌, min, List, [], length, get_or, All, sym, ap, ◌∙◌, arith}
use Rattle.std.proofs.Common.{inl, inr, add-mul, mul-le-mul_right}
use Rattle.std.proofs.lemmas.Bool.{cases_lt}
use Rattle.std.proofs.lemmas.Grind.{div_ceil_times}
use Rattle.std.proofs.lemmas.List.{get_or-map}
use Rattle.std.proofs.lemmas.List.FromFn.{length-map-range_with_len, get_or-map-range_with_len}
use Rattle.mf_lemmas.proofs.Lists.{byte_at}
use Rattle.mf_code.specs.Field.{times, power}
use Rattle.mf_code.specs.Sums.{sum_below}
use Rattle.mf_code.specs.Rows.{list_of, column}
use Rattle.mf_code.specs.Chunks.{chunk_count, parity, parity_byte}
use Rattle.mf_code.proofs.Sums.{sum_below-same}
use Rattle.mf_code.proofs.Lists.{list_of-same, length-parity, parity_at}
use Rattle.mf_field.proofs.Parities.{parity_byte_merging, parity_byte_merging_of}
use Rattle.mf_code.specs.Stripes.{stripe_count, narrow_parities}
use Rattle.mf_merge.specs.Merged.{first_length, merged_byte}

module _ (size : ℕ) (file : List ℕ) (point width factor j : ℕ) where
  -- how many of the narrow stripes the file has
  abbrev pub count : ℕ
  count = min ((j + 1) * factor) (stripe_count size (length file) width) - j * factor

  pub length-narrow : length (narrow_parities size file point width factor j) ≡ count
  unfolding narrow_parities
  length-narrow = length-map-range_with_len (parity size file point width) (j * factor) count

  pub narrow_at : (b : ℕ) → b < count
      → get_or (narrow_parities size file point width factor j) b [] ≡ parity size file point width (j * factor + b)
  unfolding narrow_parities
  narrow_at b lt =
      get_or-map-range_with_len (parity size file point width) (j * factor) count b (j * factor + b) [] lt
      (let e : j * factor + b ≡ j * factor + b = omega arith in e)

  pub narrow_byte : (b x : ℕ) → b < count → x < size
      → get_or (column x (narrow_parities size file point width factor j)) b 0
      ≡ parity_byte size file point width (j * factor + b) x
  narrow_byte b x lt inside =
      get_or-map (λ (xs : List ℕ). get_or xs x 0) (narrow_parities size file point width factor j) b [] 0
      (omega (arith, length-narrow))
      ∙ ap (λ (xs : List ℕ). get_or xs x 0) (narrow_at b lt) ∙ parity_at size file point width (j * factor + b) x inside

  -- the narrow stripes that the file has hold all its chunks of the wide stripe
  pub narrow_reach : 0 < width → count < factor → chunk_count size (length file) ≤ (j * factor + count) * width
  narrow_reach some less =
      let m = chunk_count size (length file) in
      let wide = add-mul j 1 factor in
      let all : stripe_count size (length file) width ≤ j * factor + count = omega arith in
      omega (arith, (div_ceil_times m width some).0, mul-le-mul_right width all)

  pub merged_narrow : point < 256 → All (λ b. b < 256) file → 0 < width → (x : ℕ) → x < size
      → merged_byte point width (narrow_parities size file point width factor j) x
      ≡ parity_byte size file point (factor * width) j x
  merged_narrow lp bytes some x inside =
      let byte : ℕ → ℕ = λ b. parity_byte size file point width (j * factor + b) x in
      let wide = add-mul j 1 factor in
      let summed : merged_byte point width (narrow_parities size file point width factor j) x
      ≡ sum_below count (λ b. times (power point (b * width)) (byte b)) =
      ap (λ (n : ℕ). sum_below n
      (λ b. times (power point (b * width))
      (get_or (column x (narrow_parities size file point width factor j)) b 0))) length-narrow
      ∙ sum_below-same count
      (λ b. times (power point (b * width))
      (get_or (column x (narrow_parities size file point width factor j)) b 0))
      (λ b. times (power point (b * width)) (byte b))
      (λ b lt. ap (times (power point (b * width))) (narrow_byte b x lt inside)) in
      summed ∙ elim (cases_lt count factor) [
        | inl less ↦
            sym (parity_byte_merging_of size file point factor width j x count lp (byte_at file bytes) (omega arith)
            (narrow_reach some less))
        | inr all ↦
            ap (λ (n : ℕ). sum_below n (λ b. times (power point (b * width)) (byte b)))
            (let e : count ≡ factor = omega arith in e)
            ∙ sym (parity_byte_merging size file point factor width j x lp (byte_at file bytes))
      ]

  -- the same as lists, where there is a narrow stripe
  pub merged_list : point < 256 → All (λ b. b < 256) file → 0 < width → (parities : List (List ℕ))
      → parities ≡ narrow_parities size file point width factor j
      → 0 < length parities
      → list_of (first_length parities) (merged_byte point width parities)
      ≡ parity size file point (factor * width) j
  unfolding parity
  merged_list lp bytes some parities are nonempty =
      let long : first_length parities ≡ size =
      ap first_length are
      ∙ ap length (narrow_at 0 (let h : 0 < count = omega (arith, length-narrow, ap length are) in h))
      ∙ length-parity size file point width (j * factor + 0) in
      ap (λ (n : ℕ). list_of n (merged_byte point width parities)) long
      ∙ ap (λ (ps : List (List ℕ)). list_of size (merged_byte point width ps)) are
      ∙ list_of-same size (merged_byte point width (narrow_parities size file point width factor j))
      (parity_byte size file point (factor * width) j)
      (λ x lt. merged_narrow lp bytes some x lt)
