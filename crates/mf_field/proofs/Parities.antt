-- Chunks and parities: what is past the end of the file is 0, and the parity of a wide stripe is merged from those of
-- the
-- narrow stripes that it holds.
use Rattle.std.proofs.Common.{◌≡◌, ℕ, ◌+◌, ◌-◌, ◌*◌, ◌/◌, ◌%◌, ◌<◌, ◌≤◌, min, List, length, get_or, sym, ap, ◌∙◌, subst}
use Rattle.std.proofs.Common.{arith, inl, inr, add-mul, add_assoc, mul_assoc, mul-le-mul_right, div-add-mod', mod-lt}
use Rattle.std.proofs.lemmas.Bool.{cases_lt, cases_eq}
use Rattle.std.proofs.lemmas.List.{get_or_past}
use Rattle.mf_code.specs.Field.{times, power}
use Rattle.mf_code.specs.Sums.{sum_below}
use Rattle.mf_code.specs.Chunks.{chunk, chunk_count, parity_byte}
use Rattle.mf_code.proofs.Sums.{sum_below-same, sum_below-zero}
use Rattle.mf_code.proofs.Lists.{length-chunk, chunk_at, parity_byte_by_place}
use Rattle.mf_field.proofs.FieldLaws.{times-zero}
use Rattle.mf_field.proofs.SumLaws.{merging, sum_below-front}

-- the chunks reach the end of the file
pub chunks_reach : (size : ℕ) (file : List ℕ) (t : ℕ) → 0 < size → chunk_count size (length file) ≤ t
    → length file ≤ t * size
chunks_reach size file t pos le =
    let n = length file in
    let whole = div-add-mod' n size in
    let small = mod-lt n pos in
    elim (cases_eq (n % size) 0) [
      | inl z ↦ let many : n / size ≤ t = omega arith in omega (arith, mul-le-mul_right size many)
      | inr nz ↦
          let many : n / size + 1 ≤ t = omega arith in
          omega (arith, mul-le-mul_right size many, add-mul (n / size) 1 size)
    ]

-- a chunk past the last one has zero bytes
pub chunk_past : (size : ℕ) (file : List ℕ) (t x : ℕ) → chunk_count size (length file) ≤ t
    → get_or (chunk size file t) x 0 ≡ 0
chunk_past size file t x le = elim (cases_lt x size) [
  | inl inside ↦
      chunk_at size file t x inside
      ∙ get_or_past file (t * size + x) 0 (let reach = chunks_reach size file t (omega arith) le in omega arith)
  | inr past ↦ get_or_past (chunk size file t) x 0 (omega (arith, length-chunk size file t))
]

pub chunk-lt : (size : ℕ) (file : List ℕ) (t x : ℕ) → ((i : ℕ) → get_or file i 0 < 256)
    → get_or (chunk size file t) x 0 < 256
chunk-lt size file t x bytes = elim (cases_lt x size) [
  | inl inside ↦ subst (λ (v : ℕ). v < 256) (sym (chunk_at size file t x inside)) (bytes (t * size + x))
  | inr past ↦ subst (λ (v : ℕ). v < 256)
      (sym (get_or_past (chunk size file t) x 0 (omega (arith, length-chunk size file t)))) (omega arith)
]

-- a parity counts the chunks that its stripe lacks as zero bytes: it is a sum over all places of the stripe
pub parity_byte_full : (size : ℕ) (file : List ℕ) (point width j x : ℕ)
    → parity_byte size file point width j x
    ≡ sum_below width (λ i. times (power point i) (get_or (chunk size file (j * width + i)) x 0))
parity_byte_full size file point width j x =
    let m = chunk_count size (length file) in
    let n = min ((j + 1) * width) m - j * width in
    let wide = add-mul j 1 width in
    parity_byte_by_place size file point width j x
    ∙ sym (sum_below-front n width (λ i. times (power point i) (get_or (chunk size file (j * width + i)) x 0))
    (omega arith)
    (λ i past lt. ap (times (power point i)) (chunk_past size file (j * width + i) x (omega arith))
    ∙ times-zero (power point i)))

-- a stripe past the last chunk has zero parities
pub parity_byte_past : (size : ℕ) (file : List ℕ) (point width j x : ℕ) → chunk_count size (length file) ≤ j * width
    → parity_byte size file point width j x ≡ 0
parity_byte_past size file point width j x le =
    parity_byte_full size file point width j x
    ∙ sum_below-zero width (λ i. times (power point i) (get_or (chunk size file (j * width + i)) x 0))
    (λ i lt. ap (times (power point i)) (chunk_past size file (j * width + i) x (omega arith))
    ∙ times-zero (power point i))

-- the chunk of place b * k + i of wide stripe j is that of place i of narrow stripe j * n + b
same_chunk : (n k j b i : ℕ) → (j * n + b) * k + i ≡ j * (n * k) + (b * k + i)
same_chunk n k j b i = ap (λ (v : ℕ). v + i) (add-mul (j * n) b k ∙ ap (λ (v : ℕ). v + b * k) (mul_assoc j n k))
    ∙ add_assoc (j * (n * k)) (b * k) i

-- Merging: the parity of wide stripe j, which holds n narrow stripes of k places each, is the sum over the narrow
-- stripes b of
-- point ^ (b * k) times their parity.
pub parity_byte_merging : (size : ℕ) (file : List ℕ) (point n k j x : ℕ) → point < 256
    → ((i : ℕ) → get_or file i 0 < 256)
    → parity_byte size file point (n * k) j x
    ≡ sum_below n (λ b. times (power point (b * k)) (parity_byte size file point k (j * n + b) x))
parity_byte_merging size file point n k j x lp bytes =
    parity_byte_full size file point (n * k) j x
    ∙ sym (merging point n k (λ t. get_or (chunk size file (j * (n * k) + t)) x 0) lp
    (λ t lt. chunk-lt size file (j * (n * k) + t) x bytes))
    ∙ sum_below-same n
    (λ b. times (power point (b * k))
    (sum_below k (λ i. times (power point i) (get_or (chunk size file (j * (n * k) + (b * k + i))) x 0))))
    (λ b. times (power point (b * k)) (parity_byte size file point k (j * n + b) x))
    (λ b lb. ap (times (power point (b * k)))
    (sum_below-same k (λ i. times (power point i) (get_or (chunk size file (j * (n * k) + (b * k + i))) x 0))
    (λ i. times (power point i) (get_or (chunk size file ((j * n + b) * k + i)) x 0))
    (λ i li. ap (λ (t : ℕ). times (power point i) (get_or (chunk size file t) x 0)) (sym (same_chunk n k j b i)))
    ∙ sym (parity_byte_full size file point k (j * n + b) x)))

-- the same over the narrow stripes that exist, which are the first e of them
pub parity_byte_merging_of : (size : ℕ) (file : List ℕ) (point n k j x e : ℕ) → point < 256
    → ((i : ℕ) → get_or file i 0 < 256)
    → e ≤ n → chunk_count size (length file) ≤ (j * n + e) * k
    → parity_byte size file point (n * k) j x
    ≡ sum_below e (λ b. times (power point (b * k)) (parity_byte size file point k (j * n + b) x))
parity_byte_merging_of size file point n k j x e lp bytes le reach =
    parity_byte_merging size file point n k j x lp bytes
    ∙ sum_below-front e n (λ b. times (power point (b * k)) (parity_byte size file point k (j * n + b) x)) le
    (λ b past lt. ap (times (power point (b * k)))
    (parity_byte_past size file point k (j * n + b) x
    (let more : j * n + e ≤ j * n + b = omega arith in omega (arith, mul-le-mul_right k more)))
    ∙ times-zero (power point (b * k)))
