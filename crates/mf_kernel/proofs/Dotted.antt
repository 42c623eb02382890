-- Sums of chunks by rows of coefficients, lane by lane.
use Rattle.std.proofs.Common.{◌≡◌, ℕ, ◌+◌, ◌-◌, ◌*◌, ◌<◌, ◌≤◌, List, [], ◌∷◌, length, get_or, replicate, bit_xor}
use Rattle.std.proofs.Common.{refl, sym, ap, ap₂, ◌∙◌, arith, ⊎_elim, Fits, w8}
use Rattle.std.proofs.lemmas.Bool.{cases_lt}
use Rattle.std.proofs.lemmas.Simd.{get_or-zip2, length-zip2, length-chunk, get_or-chunk, get_or-put_chunk_at}
use Rattle.std.proofs.lemmas.Simd.{get_or-put_chunk_below}
use lib.Lanes.{zip2, chunk, put_chunk, Each1}
use Rattle.mf_code.specs.Field.{times}
use Rattle.mf_code.specs.Rows.{column, added_scaled}
use Rattle.mf_code.proofs.Sums.{sum_below-more, sum_below-same}
use Rattle.mf_field.proofs.FieldLaws.{one-times}
use Rattle.mf_kernel.specs.Dots.{dot}
use Rattle.mf_kernel.proofs.Blocks.{scaled_sum, block_none, column_at, length-column}

-- the sum of the first t bytes of a column by a row
abbrev pub row_sum : List ℕ → ℕ → List ℕ → ℕ
row_sum row t xs = scaled_sum (λ i. get_or row i 0) t xs

-- 32 lanes, each the sum by the row of the first t bytes of its column
pub record AreSums (row : List ℕ) (t at : ℕ) (chunks : List (List ℕ)) (lanes : List ℕ) : Type 0 where
  pub long : length lanes ≡ 32
  pub are : (x : ℕ) → x < 32 → get_or lanes x 0 ≡ row_sum row t (column (at + x) chunks)

pub sums_none : (row : List ℕ) (at : ℕ) (chunks : List (List ℕ)) → AreSums row 0 at chunks (replicate 32 0)
sums_none row at chunks = record {
  long = refl;
  are = λ x lt. block_none (λ i. get_or row i 0) (replicate 32 0) 32 at chunks refl x lt;
}

-- one more chunk
pub sums_more : (row sums after lanes : List ℕ) (factor at t : ℕ) (chunks : List (List ℕ)) (piece bytes : List ℕ)
    → AreSums row t at chunks sums → t < length chunks → piece ≡ get_or chunks t piece → bytes ≡ piece
    → at + 32 ≤ length bytes → factor ≡ get_or row t 0
    → lanes ≡ chunk at 32 bytes → after ≡ added_scaled sums factor lanes → AreSums row (t + 1) at chunks after
sums_more row sums after lanes factor at t chunks piece bytes so_far lt is same within factor_is lanes_are are =
    record {
      long =
          ap length (are ∙ ap (added_scaled sums factor) lanes_are)
          ∙ length-zip2 (λ y z. bit_xor y (times factor z)) sums (chunk at 32 bytes)
          (so_far.long ∙ sym (length-chunk at 32 bytes within)) ∙ so_far.long;
      are = λ x below.
          let byte : get_or (chunk at 32 bytes) x 0 ≡ get_or (column (at + x) chunks) t 0 =
          get_or-chunk at 32 bytes x 0 below ∙ ap (λ (ys : List ℕ). get_or ys (at + x) 0) same
          ∙ sym (column_at (at + x) chunks t piece lt is) in
          ap (λ (ys : List ℕ). get_or ys x 0) (are ∙ ap (added_scaled sums factor) lanes_are)
          ∙ get_or-zip2 (λ y z. bit_xor y (times factor z)) sums (chunk at 32 bytes) x 0 0 0 (omega (arith, so_far.long))
          (omega (arith, length-chunk at 32 bytes within))
          ∙ ap₂ bit_xor (so_far.are x below) (ap₂ times factor_is byte)
          ∙ sym (sum_below-more t (λ i. times (get_or row i 0) (get_or (column (at + x) chunks) i 0)));
    }

-- the same sums by another row that begins alike
pub sums_alike : (row other : List ℕ) (t at : ℕ) (chunks : List (List ℕ)) (lanes : List ℕ)
    → AreSums row t at chunks lanes
    → ((i : ℕ) → i < t → get_or row i 0 ≡ get_or other i 0) → AreSums other t at chunks lanes
sums_alike row other t at chunks lanes sums alike = record {
  long = sums.long;
  are = λ x lt.
      sums.are x lt
      ∙ sum_below-same t (λ i. times (get_or row i 0) (get_or (column (at + x) chunks) i 0))
      (λ i. times (get_or other i 0) (get_or (column (at + x) chunks) i 0))
      (λ i below. ap (λ (f : ℕ). times f (get_or (column (at + x) chunks) i 0)) (alike i below));
}

-- over all chunks it is the sum by the row
pub row_sum_all : (row : List ℕ) (t x : ℕ) (chunks : List (List ℕ)) → t ≡ length chunks
    → row_sum row t (column x chunks) ≡ dot row (column x chunks)
row_sum_all row t x chunks is = ap (λ (n : ℕ). row_sum row n (column x chunks)) (is ∙ sym (length-column x chunks))

pub sums_all : (row : List ℕ) (t at : ℕ) (chunks : List (List ℕ)) (lanes : List ℕ) → AreSums row t at chunks lanes
    → t ≡ length chunks
    → (x : ℕ) → x < 32 → get_or lanes x 0 ≡ dot row (column (at + x) chunks)
sums_all row t at chunks lanes sums is x lt = sums.are x lt ∙ row_sum_all row t (at + x) chunks is

-- adding lanes is adding 1 times them
pub added_once : (sums lanes : List ℕ) → Each1 (Fits w8) lanes → zip2 bit_xor sums lanes ≡ added_scaled sums 1 lanes
added_once [] lanes fits = refl
added_once (y ∷ ys) [] fits = refl
added_once (y ∷ ys) (x ∷ xs) fits =
    ap₂ (λ (a : ℕ) (l : List ℕ). bit_xor y a ∷ l) (sym (one-times x fits.0.fits)) (added_once ys xs fits.1)

-- a block more is made
pub lanes_front : (v : ℕ → ℕ) (size block at : ℕ) (before after lanes : List ℕ) → length before ≡ size → at + 32 ≤ size
    → at ≤ block * 32
    → ((k : ℕ) → k < (block + 1) * 32 → k < size → k < at + 32) → length lanes ≡ 32 → after ≡ put_chunk at before lanes
    → ((x : ℕ) → x < 32 → get_or lanes x 0 ≡ v (at + x))
    → ((k : ℕ) → k < block * 32 → k < size → get_or before k 0 ≡ v k)
    → (k : ℕ) → k < (block + 1) * 32 → k < size → get_or after k 0 ≡ v k
lanes_front v size block at before after lanes same room joined reach long are made so_far k lt below =
    ap (λ (ys : List ℕ). get_or ys k 0) are
    ∙ ⊎_elim
    (λ (h : k < at). get_or-put_chunk_below at before lanes k 0 h ∙ so_far k (omega arith) below)
    (λ (h : at ≤ k).
    let place : at + (k - at) ≡ k = omega arith in
    let inside : k - at < 32 = omega (arith, reach k lt below) in
    ap (λ (i : ℕ). get_or (put_chunk at before lanes) i 0) (sym place)
    ∙ get_or-put_chunk_at at before lanes (k - at) 0 (omega arith) (omega arith)
    ∙ made (k - at) inside ∙ ap v place)
    (cases_lt k at)
