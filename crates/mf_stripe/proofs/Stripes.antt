-- The sum of a stripe's chunks by a point is the parity with that point.
use Rattle.std.proofs.Common.{◌≡◌, ℕ, ◌+◌, ◌-◌, ◌*◌, ◌<◌, min, List, [], length, get_or, sym, ap, ◌∙◌, arith}
use Rattle.std.proofs.lemmas.List.{get_or-map}
use Rattle.std.proofs.lemmas.List.FromFn.{length-map-range_with_len, get_or-map-range_with_len}
use Rattle.mf_code.specs.Field.{times, power}
use Rattle.mf_code.specs.Rows.{column, weighted_lists}
use Rattle.mf_code.specs.Sums.{sum_below, weighted}
use Rattle.mf_code.specs.Chunks.{chunk, chunk_count, parity, parity_byte}
use Rattle.mf_code.proofs.Sums.{sum_below-same}
use Rattle.mf_code.proofs.Lists.{list_of-same, parity_byte_by_place}
use Rattle.mf_code.specs.Stripes.{stripe}
use Rattle.mf_kernel.proofs.Blocks.{length-column}

module _ (size : ℕ) (file : List ℕ) (point width j : ℕ) where
  -- how many chunks the stripe has
  abbrev count : ℕ
  count = min ((j + 1) * width) (chunk_count size (length file)) - j * width

  pub length-stripe : length (stripe size file width j) ≡ count
  unfolding stripe
  length-stripe = length-map-range_with_len (chunk size file) (j * width) count

  pub stripe_at : (i x : ℕ) → i < count
      → get_or (column x (stripe size file width j)) i 0 ≡ get_or (chunk size file (j * width + i)) x 0
  unfolding stripe
  stripe_at i x lt =
      get_or-map (λ (xs : List ℕ). get_or xs x 0) (stripe size file width j) i [] 0
      (let e : i < length (stripe size file width j) = omega (arith, length-stripe) in e)
      ∙ ap (λ (xs : List ℕ). get_or xs x 0)
      (get_or-map-range_with_len (chunk size file) (j * width) count i (j * width + i) [] lt
      (let e : j * width + i ≡ j * width + i = omega arith in e))

  pub weighted_stripe : (x : ℕ)
      → weighted point (column x (stripe size file width j)) ≡ parity_byte size file point width j x
  weighted_stripe x =
      let bytes = column x (stripe size file width j) in
      ap (λ (n : ℕ). sum_below n (λ i. times (power point i) (get_or bytes i 0)))
      (length-column x (stripe size file width j) ∙ length-stripe)
      ∙ sum_below-same count (λ i. times (power point i) (get_or bytes i 0))
      (λ i. times (power point i) (get_or (chunk size file (j * width + i)) x 0))
      (λ i lt. ap (times (power point i)) (stripe_at i x lt))
      ∙ sym (parity_byte_by_place size file point width j x)

  pub weighted_lists_stripe : weighted_lists size point (stripe size file width j) ≡ parity size file point width j
  unfolding parity
  weighted_lists_stripe =
      list_of-same size (λ x. weighted point (column x (stripe size file width j)))
      (parity_byte size file point width j) (λ x lt. weighted_stripe x)
