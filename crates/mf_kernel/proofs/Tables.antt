-- Look-ups in tables of 16 entries, lane by lane.
use Rattle.std.proofs.Common.{◌≡◌, ℕ, zero, suc, ◌+◌, ◌-◌, ◌*◌, ◌/◌, ◌%◌, ◌^◌, ◌<◌, ◌≤◌, List, [], ◌∷◌, ◌++◌, map}
use Rattle.std.proofs.Common.{length, get_or, replicate, bit_and, bit_xor, refl, sym, ap, ap₂, ◌∙◌, arith, w8, Fits}
use Rattle.std.proofs.Common.{mod-lt, div-add-mod', pow_pos}
use Rattle.std.proofs.lemmas.Nat.{and_le_r, and_mask, xor_comm}
use Rattle.std.specs.Int.Bits.{xor_assoc, xor_shifted}
use Rattle.std.proofs.lemmas.List.{get_or-map, length-map, ext_get_or, get_or_append_left, get_or-append_right}
use Rattle.std.proofs.lemmas.Simd.{Each1-all, Each1-weaker, Each1-zip2, Each1-get_or, Each2-splat, below_from_Fits}
use Rattle.std.proofs.lemmas.Simd.{length-zip2, swz_l, SwzOk, SwzOk-from_below, length-swz_l, get_or-swz_l_below}
use Rattle.std.proofs.lemmas.Simd.{get_or-zip2, length-chunk, get_or-chunk, get_or-put_chunk_at, get_or-put_chunk_below}
use Rattle.std.proofs.lemmas.Simd.{get_or-put_chunk_above}
use lib.Lanes.{zip2, Each1, chunk, put_chunk}
use Rattle.mf_code.specs.Field.{times}
use Rattle.mf_field.proofs.Linear.{Linear, Linear-zero, Linear-after, times-xor}
use Rattle.mf_lemmas.proofs.Numbers.{xor_shl}
use Rattle.mf_kernel.specs.Tables.{IsTable, entries}

-- ---- the entries of a table

pub entries_at : (f : ℕ → ℕ) → Linear f → (n : ℕ) → n < 16 → get_or (entries (f 1) (f 2) (f 4) (f 8)) n 0 ≡ f n
entries_at f h zero lt = sym (Linear-zero f h)
entries_at f h (suc zero) lt = refl
entries_at f h (suc (suc zero)) lt = refl
entries_at f h (suc (suc (suc zero))) lt = sym (h 2 1)
entries_at f h (suc (suc (suc (suc zero)))) lt = refl
entries_at f h (suc (suc (suc (suc (suc zero))))) lt = sym (h 4 1)
entries_at f h (suc (suc (suc (suc (suc (suc zero)))))) lt = sym (h 4 2)
entries_at f h (suc (suc (suc (suc (suc (suc (suc zero))))))) lt = ap (bit_xor (f 4)) (sym (h 2 1)) ∙ sym (h 4 3)
entries_at f h (suc (suc (suc (suc (suc (suc (suc (suc zero)))))))) lt = refl
entries_at f h (suc (suc (suc (suc (suc (suc (suc (suc (suc zero))))))))) lt = sym (h 8 1)
entries_at f h (suc (suc (suc (suc (suc (suc (suc (suc (suc (suc zero)))))))))) lt = sym (h 8 2)
entries_at f h (suc (suc (suc (suc (suc (suc (suc (suc (suc (suc (suc zero))))))))))) lt = ap (bit_xor (f 8))
    (sym (h 2 1)) ∙ sym (h 8 3)
entries_at f h (suc (suc (suc (suc (suc (suc (suc (suc (suc (suc (suc (suc zero)))))))))))) lt = sym (h 8 4)
entries_at f h (suc (suc (suc (suc (suc (suc (suc (suc (suc (suc (suc (suc (suc zero))))))))))))) lt = ap
    (λ (v : ℕ). bit_xor v (f 1)) (sym (h 8 4)) ∙ sym (h 12 1)
entries_at f h (suc (suc (suc (suc (suc (suc (suc (suc (suc (suc (suc (suc (suc (suc zero)))))))))))))) lt = ap
    (λ (v : ℕ). bit_xor v (f 2)) (sym (h 8 4)) ∙ sym (h 12 2)
entries_at f h (suc (suc (suc (suc (suc (suc (suc (suc (suc (suc (suc (suc (suc (suc (suc zero))))))))))))))) lt = ap₂
    bit_xor (sym (h 8 4)) (sym (h 2 1)) ∙ sym (h 12 3)
entries_at f h (suc (suc (suc (suc (suc (suc (suc (suc (suc (suc (suc (suc (suc (suc (suc (suc n)))))))))))))))) lt =
    absurd (omega arith)

copies_at : (l : List ℕ) → length l ≡ 16 → (copy n : ℕ) → copy < 2 → n < 16
    → get_or (l ++ l) (16 * copy + n) 0 ≡ get_or l n 0
copies_at l long zero n lc ln =
    ap (λ (k : ℕ). get_or (l ++ l) k 0) (let e : 16 * 0 + n ≡ n = omega arith in e)
    ∙ get_or_append_left l l 0 n (omega arith)
copies_at l long (suc zero) n lc ln =
    ap (λ (k : ℕ). get_or (l ++ l) k 0) (let e : 16 * 1 + n ≡ 16 + n = omega arith in e)
    ∙ get_or-append_right l l 16 (16 + n) 0 long (omega arith)
    ∙ ap (λ (k : ℕ). get_or l k 0) (let e : 16 + n - 16 ≡ n = omega arith in e)
copies_at l long (suc (suc copy)) n lc ln = absurd (omega arith)

pub IsTable_of : (f : ℕ → ℕ) → Linear f → (table : List ℕ) (a b c d : ℕ) → a ≡ f 1 → b ≡ f 2 → c ≡ f 4 → d ≡ f 8
    → table ≡ entries a b c d ++ entries a b c d → IsTable f table
IsTable_of f h table a b c d ea eb ec ed is = record { long = ap length is; at = at }
  where
    same : entries a b c d ≡ entries (f 1) (f 2) (f 4) (f 8)
    same = ap₂ (λ (x y : ℕ). entries x y c d) ea eb ∙ ap₂ (λ (x y : ℕ). entries (f 1) (f 2) x y) ec ed

    at : (copy n : ℕ) → copy < 2 → n < 16 → get_or table (16 * copy + n) 0 ≡ f n
    at copy n lc ln =
        ap (λ (t : List ℕ). get_or t (16 * copy + n) 0) is ∙ copies_at (entries a b c d) refl copy n lc ln
        ∙ ap (λ (t : List ℕ). get_or t n 0) same ∙ entries_at f h n ln

-- ---- a look-up

abbrev pub IsBlock : List ℕ → Type 0
IsBlock v = (length v ≡ 32) × Each1 (Fits w8) v

abbrev pub down : ℕ → ℕ → ℕ
down a b = a / 2 ^ b

pub high_ok : (v : List ℕ) → IsBlock v → SwzOk w8 16 32 0 (zip2 down v (replicate 32 4))
high_ok v fits =
    let small = Each1-weaker (λ a. a < 256) (λ a. a / 16 < 16) (λ a h. omega arith) v (below_from_Fits w8 v fits.1) in
    SwzOk-from_below w8 16 2 32 0 (zip2 down v (replicate 32 4)) refl
    (omega (arith, length-zip2 down v (replicate 32 4) fits.0))
    (Each1-zip2 down (λ j. j < 16) v (replicate 32 4) (Each2-splat (λ a b. down a b < 16) v 32 4 small))

pub low_ok : (v : List ℕ) → IsBlock v → SwzOk w8 16 32 0 (zip2 bit_and v (replicate 32 15))
low_ok v fits =
    let small = Each1-all (λ a. bit_and a 15 < 16) (λ a. omega (arith, and_le_r a 15)) v in
    SwzOk-from_below w8 16 2 32 0 (zip2 bit_and v (replicate 32 15)) refl
    (omega (arith, length-zip2 bit_and v (replicate 32 15) fits.0))
    (Each1-zip2 bit_and (λ j. j < 16) v (replicate 32 15) (Each2-splat (λ a b. bit_and a b < 16) v 32 15 small))

pub lane_fits : (v : List ℕ) (i : ℕ) → i < length v → Each1 (Fits w8) v → get_or v i 0 < 256
lane_fits v i h fits = Each1-get_or (λ x. x < 256) v i 0 h (below_from_Fits w8 v fits)

-- a table of f, read at places g x below 16
pub looked_up : (f : ℕ → ℕ) (t : List ℕ) (g : ℕ → ℕ) (v js : List ℕ) → IsTable f t → IsBlock v → js ≡ map g v
    → ((x : ℕ) → x < 256 → g x < 16)
    → swz_l w8 16 t 0 js ≡ map (λ x. f (g x)) v
looked_up f t g v js table fits e small =
    let long : length js ≡ 32 = ap length e ∙ length-map v g ∙ fits.0 in
    ext_get_or 0 _ _ (length-swz_l w8 16 t 0 js ∙ long ∙ sym (length-map v (λ x. f (g x)) ∙ fits.0)) (λ i h.
    let lt : i < 32 = omega (arith, length-swz_l w8 16 t 0 js) in
    let within : i < length v = omega (arith, fits.0) in
    let is : get_or js i 0 ≡ g (get_or v i 0) = ap (λ l. get_or l i 0) e ∙ get_or-map g v i 0 0 within in
    let below : get_or js i 0 < 16 = omega (arith, small (get_or v i 0) (lane_fits v i within fits.1)) in
    get_or-swz_l_below w8 16 t 0 js i (omega arith) below
    ∙ table.at ((0 + i) / 16) (get_or js i 0) (omega arith) below
    ∙ ap f is ∙ sym (get_or-map (λ x. f (g x)) v i 0 0 within))

-- ---- the two halves of a byte

pub halves : (b : ℕ) → bit_xor (bit_and b 15) (b / 16 * 2 ^ 4) ≡ b
halves b =
    ap (λ (r : ℕ). bit_xor r (b / 16 * 2 ^ 4)) (and_mask b 4) ∙ xor_comm (b % 2 ^ 4) (b / 16 * 2 ^ 4)
    ∙ xor_shifted (b / 2 ^ 4) 4 (b % 2 ^ 4) (mod-lt b (pow_pos 4)) ∙ div-add-mod' b (2 ^ 4)

pub times_halves : (c b : ℕ) → bit_xor (times c (bit_and b 15)) (times c (b / 16 * 2 ^ 4)) ≡ times c b
times_halves c b = sym (times-xor c (bit_and b 15) (b / 16 * 2 ^ 4)) ∙ ap (times c) (halves b)

pub lower_linear : (c : ℕ) → Linear (λ n. times c n)
lower_linear c = times-xor c

pub upper_linear : (c : ℕ) → Linear (λ n. times c (n * 2 ^ 4))
upper_linear c = Linear-after (times c) (λ n. n * 2 ^ 4) (times-xor c) (xor_shl 4)

-- sums with the products by the two halves
pub sums_of_halves : (c : ℕ) (sums v lows highs : List ℕ) → length sums ≡ length v
    → lows ≡ map (λ b. times c (bit_and b 15)) v → highs ≡ map (λ b. times c (b / 16 * 2 ^ 4)) v
    → zip2 bit_xor (zip2 bit_xor sums lows) highs ≡ zip2 (λ y x. bit_xor y (times c x)) sums v
sums_of_halves c sums v lows highs same low high = ap₂ (λ (a b : List ℕ). zip2 bit_xor (zip2 bit_xor sums a) b) low high
    ∙ go sums v same
  where
    go : (ys xs : List ℕ) → length ys ≡ length xs
        → zip2 bit_xor (zip2 bit_xor ys (map (λ b. times c (bit_and b 15)) xs)) (map (λ b. times c (b / 16 * 2 ^ 4)) xs)
        ≡ zip2 (λ y x. bit_xor y (times c x)) ys xs
    go [] xs e = refl
    go (y ∷ ys) [] e = refl
    go (y ∷ ys) (x ∷ xs) e =
        ap₂ (λ (a : ℕ) (b : List ℕ). a ∷ b)
        (xor_assoc y (times c (bit_and x 15)) (times c (x / 16 * 2 ^ 4)) ∙ ap (bit_xor y) (times_halves c x))
        (go ys xs (omega arith))

-- the products by the two halves
pub products_of_halves : (c : ℕ) (v lows highs : List ℕ) → lows ≡ map (λ b. times c (bit_and b 15)) v
    → highs ≡ map (λ b. times c (b / 16 * 2 ^ 4)) v
    → zip2 bit_xor lows highs ≡ map (times c) v
products_of_halves c v lows highs low high = ap₂ (zip2 bit_xor) low high ∙ go v
  where
    go : (xs : List ℕ)
        → zip2 bit_xor (map (λ b. times c (bit_and b 15)) xs) (map (λ b. times c (b / 16 * 2 ^ 4)) xs)
        ≡ map (times c) xs
    go [] = refl
    go (x ∷ xs) = ap₂ (λ (a : ℕ) (b : List ℕ). a ∷ b) (times_halves c x) (go xs)

-- ---- lanes of a list that are written

-- the lanes from `at` on are those of v, and the others stay
module _ (v : ℕ → ℕ) (at : ℕ) (before after lanes : List ℕ) (room : at + 32 ≤ length before) (long : length lanes ≡ 32)
    (are : after ≡ put_chunk at before lanes) (made : (j : ℕ) → j < 32 → get_or lanes j 0 ≡ v (at + j)) where
  pub lanes_written : (k : ℕ) → at ≤ k → k < at + 32 → get_or after k 0 ≡ v k
  lanes_written k le lt =
      let j = k - at in
      let place : at + j ≡ k = omega arith in
      ap (λ (l : List ℕ). get_or l k 0) are
      ∙ ap (λ (i : ℕ). get_or (put_chunk at before lanes) i 0) (sym place)
      ∙ get_or-put_chunk_at at before lanes j 0 (omega arith) (omega arith)
      ∙ made j (omega arith) ∙ ap v place

pub below_written : (at : ℕ) (before after lanes : List ℕ) → after ≡ put_chunk at before lanes → (k : ℕ) → k < at
    → get_or after k 0 ≡ get_or before k 0
below_written at before after lanes are k lt = ap (λ (l : List ℕ). get_or l k 0) are
    ∙ get_or-put_chunk_below at before lanes k 0 lt

pub above_written : (at : ℕ) (before after lanes : List ℕ) → length lanes ≡ 32 → after ≡ put_chunk at before lanes
    → (k : ℕ) → at + 32 ≤ k → get_or after k 0 ≡ get_or before k 0
above_written at before after lanes long are k le = ap (λ (l : List ℕ). get_or l k 0) are
    ∙ get_or-put_chunk_above at before lanes k 0 (omega arith)

-- lanes that a rule of two bytes makes of those of two lists
module _ (f : ℕ → ℕ → ℕ) (at : ℕ) (ys xs lanes : List ℕ) (within : at + 32 ≤ length ys) (from : at + 32 ≤ length xs)
    (are : lanes ≡ zip2 f (chunk at 32 ys) (chunk at 32 xs)) where
  pub length-zipped : length lanes ≡ 32
  length-zipped =
      ap length are
      ∙ length-zip2 f (chunk at 32 ys) (chunk at 32 xs)
      (length-chunk at 32 ys within ∙ sym (length-chunk at 32 xs from))
      ∙ length-chunk at 32 ys within

  pub zipped_at : (j : ℕ) → j < 32 → get_or lanes j 0 ≡ f (get_or ys (at + j) 0) (get_or xs (at + j) 0)
  zipped_at j lt =
      ap (λ (l : List ℕ). get_or l j 0) are
      ∙ get_or-zip2 f (chunk at 32 ys) (chunk at 32 xs) j 0 0 0 (omega (arith, length-chunk at 32 ys within))
      (omega (arith, length-chunk at 32 xs from))
      ∙ ap₂ f (get_or-chunk at 32 ys j 0 lt) (get_or-chunk at 32 xs j 0 lt)

-- lanes that a rule of one byte makes of those of a list
module _ (f : ℕ → ℕ) (at : ℕ) (xs lanes : List ℕ) (from : at + 32 ≤ length xs) (are : lanes ≡ map f (chunk at 32 xs))
  where
    pub length-mapped : length lanes ≡ 32
    length-mapped = ap length are ∙ length-map (chunk at 32 xs) f ∙ length-chunk at 32 xs from

    pub mapped_at : (j : ℕ) → j < 32 → get_or lanes j 0 ≡ f (get_or xs (at + j) 0)
    mapped_at j lt =
        ap (λ (l : List ℕ). get_or l j 0) are
        ∙ get_or-map f (chunk at 32 xs) j 0 0 (omega (arith, length-chunk at 32 xs from))
        ∙ ap f (get_or-chunk at 32 xs j 0 lt)
