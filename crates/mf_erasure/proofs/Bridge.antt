-- A set of places is decodable where the matrix of its erasure sends only the zero list to zero, and the other way
-- round.
use Rattle.std.proofs.Common.{◌≡◌, ◌≢◌, ℕ, ◌+◌, ◌-◌, ◌<◌, List, length, get_or, map, refl, sym, ◌∙◌, ap, ap₂, subst}
use Rattle.std.proofs.Common.{inl, inr, ⊎_elim, arith}
use Rattle.std.specs.Prelude.{bit_xor, All, Contains}
use Rattle.std.proofs.lemmas.Bool.{cases_lt}
use Rattle.std.proofs.lemmas.List.{get_or_default, get_or_append_left, get_or-append_right, get_or-map}
use Rattle.std.proofs.Math.ListN.{length-append, length-map}
use Rattle.std.proofs.lemmas.Nat.{xor_lt}
use Rattle.mf_lemmas.proofs.Numbers.{equal_from_sum, sum_from_equal}
use Rattle.mf_lemmas.proofs.Lists.{contains_at, at_contains, rising_differ, find_in, byte_at}
use Rattle.mf_code.specs.Field.{times, power}
use Rattle.mf_code.specs.Sums.{sum_below, weighted}
use Rattle.mf_code.specs.Rows.{list_of}
use Rattle.mf_code.specs.Decodable.{codeword, IsData, AgreeOutside, IsDecodableAt}
use Rattle.mf_code.proofs.Sums.{sum_below-same, sum_below-zero, sum_below_xor}
use Rattle.mf_code.proofs.Lists.{length-list_of, list_of_at, list_of_from}
use Rattle.mf_field.proofs.FieldLaws.{times_add, times-zero}
use Rattle.mf_matrix.specs.Tables.{OnlyZero}
use Rattle.mf_erasure.specs.Erasure.{entry, Splits}
use Rattle.mf_erasure.proofs.Spread.{at_place, at_place-zero, spread, sum_spread, spread-other, spread-lost, spread-lt}

pub all_list_of : (n : ℕ) (f : ℕ → ℕ) → ((x : ℕ) → x < n → f x < 256) → All (λ b. b < 256) (list_of n f)
all_list_of n f h k d lt =
    let len = length-list_of n f in
    let low : k < n = omega arith in
    subst (λ v. v < 256) (sym (get_or_default (list_of n f) k d 0 lt ∙ list_of_at n f k low)) (h k low)

-- a weighted sum over a list of known length
pub weighted_over : (width point : ℕ) (xs : List ℕ) → length xs ≡ width
    → weighted point xs ≡ sum_below width (λ t. times (power point t) (get_or xs t 0))
weighted_over width point xs len = ap (λ (n : ℕ). sum_below n (λ t. times (power point t) (get_or xs t 0))) len

pub weighted_list_of : (width point : ℕ) (f : ℕ → ℕ) → weighted point (list_of width f)
    ≡ sum_below width (λ t. times (power point t) (f t))
weighted_list_of width point f =
    weighted_over width point (list_of width f) (length-list_of width f)
    ∙ sum_below-same width (λ t. times (power point t) (get_or (list_of width f) t 0))
    (λ t. times (power point t) (f t)) (λ t l. ap (times (power point t)) (list_of_at width f t l))

-- a codeword's bytes: the data, and then the parities
pub codeword_data : (width : ℕ) (points d : List ℕ) (t : ℕ) → length d ≡ width → t < width
    → get_or (codeword points d) t 0 ≡ get_or d t 0
codeword_data width points d t len lt = get_or_append_left d (map (λ point. weighted point d) points) 0 t (omega arith)

pub codeword_parity : (width : ℕ) (points d : List ℕ) (p : ℕ) → length d ≡ width → p < length points
    → get_or (codeword points d) (width + p) 0 ≡ weighted (get_or points p 0) d
codeword_parity width points d p len lt =
    get_or-append_right d (map (λ point. weighted point d) points) width (width + p) 0 len (omega arith)
    ∙ ap (λ (i : ℕ). get_or (map (λ point. weighted point d) points) i 0)
    (let e : width + p - width ≡ p = omega arith in e)
    ∙ get_or-map (λ point. weighted point d) points p 0 0 lt

pub length-codeword : (width : ℕ) (points d : List ℕ) → length d ≡ width → length (codeword points d)
    ≡ width + length points
length-codeword width points d len = length-append d (map (λ point. weighted point d) points)
    ∙ ap₂ (λ (a b : ℕ). a + b) len (length-map points (λ point. weighted point d))

-- codewords that agree at each data place outside the lost ones and at each kept parity agree outside the places
pub agree_from : (width : ℕ) (points places lost kept d e : List ℕ) → Splits width (length points) places lost kept
    → length d ≡ width → length e ≡ width
    → ((t : ℕ) → t < width → ((j : ℕ) → j < length lost → get_or lost j 0 ≢ t) → get_or d t 0 ≡ get_or e t 0)
    → ((i : ℕ) → i < length kept → weighted (get_or points (get_or kept i 0) 0) d
    ≡ weighted (get_or points (get_or kept i 0) 0) e)
    → AgreeOutside places (codeword points d) (codeword points e)
agree_from width points places lost kept d e s ld le same parities i lt out = elim (cases_lt i width) [
  | inl low ↦ codeword_data width points d i ld low
      ∙ same i low (λ j l is. out (subst (Contains places) is (s.lost_in (get_or lost j 0) (at_contains lost j l))))
      ∙ sym (codeword_data width points e i le low)
  | inr high ↦
      (let len = length-codeword width points d ld in
      let p : ℕ = i - width in
      let there : i ≡ width + p = omega arith in
      let below : p < length points = omega arith in
      let k = contains_at kept p (s.parity_out p below (λ c. out (subst (Contains places) (sym there) c))) in
      subst (λ (m : ℕ). get_or (codeword points d) m 0 ≡ get_or (codeword points e) m 0) (sym there)
      (codeword_parity width points d p ld below
      ∙ subst (λ (q : ℕ). weighted (get_or points q 0) d ≡ weighted (get_or points q 0) e) k.2 (parities k.0 k.1)
      ∙ sym (codeword_parity width points e p le below)))
]

-- Where the places are decodable, the matrix sends only the zero list to zero.
pub only_zero_from_decodable : (width : ℕ) (points places lost kept : List ℕ)
    → Splits width (length points) places lost kept → IsDecodableAt points width places
    → OnlyZero (length lost) (entry points lost kept)
only_zero_from_decodable width points places lost kept s one x bytes rows j lt =
    sym (spread-lost n at x j lt (λ i l d. rising_differ lost s.erasure.lost_places.rising i j l lt d))
    ∙ sym (list_of_at width (spread n at x) (at j) (s.erasure.lost_places.below j 0 lt))
    ∙ ap (λ (xs : List ℕ). get_or xs (at j) 0) equal
    ∙ list_of_at width (λ t. 0) (at j) (s.erasure.lost_places.below j 0 lt)
  where
    n : ℕ
    n = length lost

    at : ℕ → ℕ
    at j = get_or lost j 0

    d : List ℕ
    d = list_of width (spread n at x)

    none : List ℕ
    none = list_of width (λ t. 0)

    parity : (i : ℕ) → i < length kept → weighted (get_or points (get_or kept i 0) 0) d
        ≡ weighted (get_or points (get_or kept i 0) 0) none
    parity i l =
        let even = s.erasure.even in
        let point : ℕ = get_or points (get_or kept i 0) 0 in
        weighted_list_of width point (spread n at x)
        ∙ sum_spread n width at x (power point) (λ k lk. s.erasure.lost_places.below k 0 lk)
        ∙ rows i (omega arith)
        ∙ sym (weighted_list_of width point (λ t. 0) ∙ sum_below-zero width (λ t. times (power point t) 0)
        (λ t lt. times-zero (power point t)))

    equal : d ≡ none
    equal = one.one d none
        (record {
          len = length-list_of width (spread n at x);
          bytes = all_list_of width (spread n at x)
              (λ t l. spread-lt n at x t bytes);
        })
        (record { len = length-list_of width (λ t. 0); bytes = all_list_of width (λ t. 0) (λ t l. omega arith) })
        (agree_from width points places lost kept d none s (length-list_of width (spread n at x))
        (length-list_of width (λ t. 0))
        (λ t l out. list_of_at width (spread n at x) t l ∙ spread-other n at x t out
        ∙ sym (list_of_at width (λ t. 0) t l))
        parity)

-- Where the matrix sends only the zero list to zero, the places are decodable.
pub decodable_from_only_zero : (width : ℕ) (points places lost kept : List ℕ)
    → Splits width (length points) places lost kept
    → OnlyZero (length lost) (entry points lost kept) → IsDecodableAt points width places
decodable_from_only_zero width points places lost kept s only = record { one = λ d e dd de agree. same d e dd de agree }
  where
    n : ℕ
    n = length lost

    at : ℕ → ℕ
    at j = get_or lost j 0

    same : (d e : List ℕ) → IsData width d → IsData width e
        → AgreeOutside places (codeword points d) (codeword points e) → d ≡ e
    same d e dd de agree =
        list_of_from width (λ t. get_or e t 0) d dd.len
        (λ t lt. equal_from_sum (get_or d t 0) (get_or e t 0) (difference-zero t lt))
        ∙ sym (list_of_from width (λ t. get_or e t 0) e de.len (λ t lt. refl))
      where
        difference : ℕ → ℕ
        difference t = bit_xor (get_or d t 0) (get_or e t 0)

        x : ℕ → ℕ
        x j = difference (at j)

        x-lt : (j : ℕ) → x j < 256
        x-lt j = xor_lt 8 (get_or d (at j) 0) (get_or e (at j) 0) (byte_at d dd.bytes (at j))
            (byte_at e de.bytes (at j))

        difference-spread : (t : ℕ) → t < width → difference t ≡ spread n at x t
        difference-spread t lt = ⊎_elim
            (λ found. ap difference (sym found.2)
            ∙ sym (spread-lost n at x found.0 found.1
            (λ i l ne. rising_differ lost s.erasure.lost_places.rising i found.0 l found.1 ne))
            ∙ ap (spread n at x) found.2)
            (λ none. sum_from_equal (get_or d t 0) (get_or e t 0)
            (sym (codeword_data width points d t dd.len lt)
            ∙ agree t (let len = length-codeword width points d dd.len in omega arith)
            (λ c. (let k = contains_at lost t (s.data_in t lt c) in none k.0 k.1 k.2))
            ∙ codeword_data width points e t de.len lt)
            ∙ sym (spread-other n at x t none))
            (find_in n at t)

        row : (i : ℕ) → i < n → sum_below n (λ j. times (entry points lost kept i j) (x j)) ≡ 0
        row i lt =
            sym (sum_spread n width at x (power point) (λ k l. s.erasure.lost_places.below k 0 l))
            ∙ sum_below-same width (λ t. times (power point t) (spread n at x t))
            (λ t. bit_xor (times (power point t) (get_or d t 0)) (times (power point t) (get_or e t 0)))
            (λ t l. ap (times (power point t)) (sym (difference-spread t l))
            ∙ times_add (power point t) (get_or d t 0) (get_or e t 0))
            ∙ sum_below_xor width (λ t. times (power point t) (get_or d t 0))
            (λ t. times (power point t) (get_or e t 0))
            ∙ sum_from_equal (sum_below width (λ t. times (power point t) (get_or d t 0)))
            (sum_below width (λ t. times (power point t) (get_or e t 0)))
            (sym (weighted_over width point d dd.len) ∙ parity ∙ weighted_over width point e de.len)
          where
            p : ℕ
            p = get_or kept i 0

            point : ℕ
            point = get_or points p 0

            inside : i < length kept
            inside = let even = s.erasure.even in omega arith

            below : p < length points
            below = s.erasure.kept_places.below i 0 inside

            parity : weighted point d ≡ weighted point e
            parity =
                sym (codeword_parity width points d p dd.len below)
                ∙ agree (width + p) (let len = length-codeword width points d dd.len in let b = below in omega arith)
                (λ c. s.kept_out p (at_contains kept i inside) c)
                ∙ codeword_parity width points e p de.len below

        x-zero : (j : ℕ) → j < n → x j ≡ 0
        x-zero j lt = only x x-lt row j lt

        difference-zero : (t : ℕ) → t < width → difference t ≡ 0
        difference-zero t lt =
            difference-spread t lt
            ∙ sum_below-zero n (λ j. at_place (at j) t (x j))
            (λ j l. ap (at_place (at j) t) (x-zero j l) ∙ at_place-zero (at j) t)
