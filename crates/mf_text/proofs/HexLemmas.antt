-- Bytes in hexadecimal: what a word spells is what was written, and the other way round.
use Rattle.std.proofs.Common.{◌≡◌, ℕ, ◌+◌, ◌-◌, ◌*◌, ◌/◌, ◌%◌, ◌<◌, ◌≤◌, true, false, not, eqb, ltb, leb, ◌&&◌, List}
use Rattle.std.proofs.Common.{[], ◌∷◌, ◌++◌, length, get_or, take, drop, Some, None, refl, sym, ap, ◌∙◌, inl, inr}
use Rattle.std.proofs.Common.{arith}
use Rattle.std.specs.Fmt.{digits, digit_glyph}
use Rattle.std.specs.List.{list_all, AllByRecursion}
use Rattle.std.proofs.lemmas.Bool.{cond-true, cond-false, cases_Bool, cases_lt, and_parts, and_from, or_cases, lt-ltb}
use Rattle.std.proofs.lemmas.Bool.{le-ltb, ltb-true, both_ways, or_right, le-leb, lt-leb, leb-true, eq-eqb, eqb-true}
use Rattle.std.proofs.lemmas.Bool.{ne_eqb, not_from_false, false_from_ne_true}
use Rattle.std.proofs.lemmas.List.{take_more, take_all, append_assoc, append-nil}
use Rattle.mf_text.specs.Lines.{is_printable, is_clean}
use Rattle.mf_text.proofs.WordLemmas.{is_word}
use Rattle.mf_text.specs.Hex.{hex_digit, is_hex_digit, hex_digit_value, hex_text, is_hex_word, hex_value, hex_of}

-- ---- digits

-- a digit is the spelling of its value, which is below 16
pub hex_digit-value : (c : ℕ) → is_hex_digit c ≡ true → (hex_digit (hex_digit_value c) ≡ c) × (hex_digit_value c < 16)
hex_digit-value c e =
    elim (or_cases (leb 48 c && leb c 57) (leb 97 c && leb c 102) e) [
      | inl digit ↦
          let parts = and_parts (leb 48 c) (leb c 57) digit in
          let low = leb-true 48 c parts.0 in
          let high = leb-true c 57 parts.1 in
          let value : hex_digit_value c ≡ c - 48 = cond-true _ _ _ parts.1 in
          let back : hex_digit (c - 48) ≡ 48 + (c - 48) = cond-true _ _ _ (lt-ltb (c - 48) 10 (omega arith)) in
          (ap hex_digit value ∙ back ∙ omega arith, omega arith)
      | inr letter ↦
          let parts = and_parts (leb 97 c) (leb c 102) letter in
          let low = leb-true 97 c parts.0 in
          let high = leb-true c 102 parts.1 in
          let value : hex_digit_value c ≡ c - 87 = cond-false _ _ _ (lt-leb c 57 (omega arith)) in
          let back : hex_digit (c - 87) ≡ 87 + (c - 87) = cond-false _ _ _ (le-ltb (c - 87) 10 (omega arith)) in
          (ap hex_digit value ∙ back ∙ omega arith, omega arith)
    ]

-- the spelling of a value is a digit, of that value
pub hex_digit-is : (v : ℕ) → v < 16 → (is_hex_digit (hex_digit v) ≡ true) × (hex_digit_value (hex_digit v) ≡ v)
hex_digit-is v lt =
    elim (cases_lt v 10) [
      | inl less ↦
          let is : hex_digit v ≡ 48 + v = cond-true _ _ _ (lt-ltb v 10 less) in
          let high : leb (48 + v) 57 ≡ true = le-leb (48 + v) 57 (omega arith) in
          let low : leb 48 (48 + v) ≡ true = le-leb 48 (48 + v) (omega arith) in
          let value : hex_digit_value (48 + v) ≡ 48 + v - 48 = cond-true _ _ _ high in
          (ap is_hex_digit is ∙ rw (low, high) refl, ap hex_digit_value is ∙ value ∙ omega arith)
      | inr more ↦
          let is : hex_digit v ≡ 87 + v = cond-false _ _ _ (le-ltb v 10 more) in
          let above : leb (87 + v) 57 ≡ false = lt-leb (87 + v) 57 (omega arith) in
          let low : leb 97 (87 + v) ≡ true = le-leb 97 (87 + v) (omega arith) in
          let high : leb (87 + v) 102 ≡ true = le-leb (87 + v) 102 (omega arith) in
          let value : hex_digit_value (87 + v) ≡ 87 + v - 87 = cond-false _ _ _ above in (
            ap is_hex_digit is
                ∙ or_right (leb 48 (87 + v) && leb (87 + v) 57) _ (and_from _ _ low high),
            ap hex_digit_value is ∙ value
                ∙ omega arith,
          )
    ]

-- ---- words

pub record IsHexWord (word : List ℕ) : Type 0 where
  pub some : 0 < length word
  pub even : length word % 2 ≡ 0
  pub digits : list_all is_hex_digit word ≡ true

pub IsHexWord-from : (word : List ℕ) → is_hex_word word ≡ true → IsHexWord word
unfolding is_hex_word
IsHexWord-from word e =
    let parts = and_parts (ltb 0 (length word) && eqb (length word % 2) 0) (list_all is_hex_digit word) e in
    let shape = and_parts (ltb 0 (length word)) (eqb (length word % 2) 0) parts.0 in
    record { some = ltb-true 0 (length word) shape.0; even = eqb-true (length word % 2) 0 shape.1; digits = parts.1 }

pub is_hex_word-true : (word : List ℕ) → IsHexWord word → is_hex_word word ≡ true
unfolding is_hex_word
is_hex_word-true word h =
    and_from (ltb 0 (length word) && eqb (length word % 2) 0) (list_all is_hex_digit word)
    (and_from (ltb 0 (length word)) (eqb (length word % 2) 0) (lt-ltb 0 (length word) h.some)
    (eq-eqb (length word % 2) 0 h.even)) h.digits

pub hex_of-some : (word : List ℕ) → IsHexWord word → hex_of word ≡ Some (hex_value word)
unfolding hex_of
hex_of-some word h = cond-true _ _ _ (is_hex_word-true word h)

pub hex_of-none : (word : List ℕ) → (IsHexWord word → ⊥) → hex_of word ≡ None
unfolding hex_of
hex_of-none word h = cond-false _ _ _ (false_from_ne_true _ (λ holds. h (IsHexWord-from word holds)))

pub IsHexWord-at : (word bytes : List ℕ) → hex_of word ≡ Some bytes → IsHexWord word × (bytes ≡ hex_value word)
unfolding hex_of
IsHexWord-at word bytes e =
    elim (cases_Bool (is_hex_word word)) [
      | inl holds ↦ let at = sym (cond-true _ _ _ holds)
          ∙ e in let is : bytes ≡ hex_value word = cc in (IsHexWord-from word holds, is)
      | inr fails ↦ let at = sym (cond-false _ _ _ fails) ∙ e in absurd cc
    ]

-- ---- from bytes to their text, and back

pub length-hex_text : (bytes : List ℕ) → length (hex_text bytes) ≡ 2 * length bytes
unfolding hex_text
length-hex_text [] = refl
length-hex_text (b ∷ bytes) = omega (arith, length-hex_text bytes)

pub hex_text-append : (a b : List ℕ) → hex_text (a ++ b) ≡ hex_text a ++ hex_text b
unfolding hex_text
hex_text-append [] b = refl
hex_text-append (x ∷ a) b = ap (λ t. hex_digit (x / 16) ∷ hex_digit (x % 16) ∷ t) (hex_text-append a b)

pub hex_text-digits : (bytes : List ℕ) → AllByRecursion (λ b. b < 256) bytes
    → list_all is_hex_digit (hex_text bytes) ≡ true
unfolding hex_text
hex_text-digits [] h = refl
hex_text-digits (b ∷ bytes) h =
    let lt = h.0 in
    and_from _ _ (hex_digit-is (b / 16) (omega arith)).0
    (and_from _ _ (hex_digit-is (b % 16) (omega arith)).0 (hex_text-digits bytes h.1))

pub hex_value-hex_text : (bytes : List ℕ) → AllByRecursion (λ b. b < 256) bytes → hex_value (hex_text bytes) ≡ bytes
unfolding hex_text hex_value
hex_value-hex_text [] h = refl
hex_value-hex_text (b ∷ bytes) h =
    let lt = h.0 in
    let high = (hex_digit-is (b / 16) (omega arith)).1 in
    let low = (hex_digit-is (b % 16) (omega arith)).1 in
    let byte : 16 * hex_digit_value (hex_digit (b / 16)) + hex_digit_value (hex_digit (b % 16))
    ≡ b = rw (high, low) (omega arith) in
    rw (byte, hex_value-hex_text bytes h.1) refl

-- the spelling of bytes spells them
pub hex_of-hex_text : (bytes : List ℕ) → AllByRecursion (λ b. b < 256) bytes → 0 < length bytes
    → hex_of (hex_text bytes) ≡ Some bytes
hex_of-hex_text bytes h some =
    let long = length-hex_text bytes in
    hex_of-some (hex_text bytes) (record { some = omega arith; even = omega arith; digits = hex_text-digits bytes h })
    ∙ ap Some (hex_value-hex_text bytes h)

hex_text-value : (word : List ℕ) → length word % 2 ≡ 0 → list_all is_hex_digit word ≡ true
    → hex_text (hex_value word) ≡ word
unfolding hex_text hex_value
hex_text-value [] even digits = refl
hex_text-value (c ∷ []) even digits = absurd (omega arith)
hex_text-value (h ∷ l ∷ rest) even digits =
    let first = and_parts (is_hex_digit h) (is_hex_digit l && list_all is_hex_digit rest) digits in
    let second = and_parts (is_hex_digit l) (list_all is_hex_digit rest) first.1 in
    let high = hex_digit-value h first.0 in
    let low = hex_digit-value l second.0 in
    let hv = high.1 in
    let lv = low.1 in
    let q : (16 * hex_digit_value h + hex_digit_value l) / 16 ≡ hex_digit_value h = omega arith in
    let r : (16 * hex_digit_value h + hex_digit_value l) % 16 ≡ hex_digit_value l = omega arith in
    rw (q, r, high.0, low.0, hex_text-value rest (omega arith) second.1) refl

-- a word that spells bytes is their spelling
pub hex_text-from : (word bytes : List ℕ) → hex_of word ≡ Some bytes → word ≡ hex_text bytes
hex_text-from word bytes e =
    let at = IsHexWord-at word bytes e in
    sym (ap hex_text at.1 ∙ hex_text-value word at.0.even at.0.digits)

-- ---- the loop of `hex_bytes`: the bytes so far, and the digits that are left

pub record Pairs (word bytes rest : List ℕ) : Type 0 where
  pub value : hex_value word ≡ bytes ++ hex_value rest
  pub digits : list_all is_hex_digit word ≡ list_all is_hex_digit rest
  pub even : length rest % 2 ≡ 0

pub Pairs-start : (word : List ℕ) → length word % 2 ≡ 0 → Pairs word [] word
Pairs-start word even = record { value = refl; digits = refl; even = even }

pub Pairs-more : (word bytes rest : List ℕ) (b : ℕ) → Pairs word bytes rest → 2 ≤ length rest
    → (is_hex_digit (get_or rest 0 0) && is_hex_digit (get_or rest 1 0)) ≡ true
    → b ≡ 16 * hex_digit_value (get_or rest 0 0) + hex_digit_value (get_or rest 1 0)
    → Pairs word (bytes ++ b ∷ []) (take (length rest - 2) (drop 2 rest))
unfolding hex_value
Pairs-more word bytes [] b so long digits is = absurd (omega arith)
Pairs-more word bytes (c ∷ []) b so long digits is = absurd (omega arith)
Pairs-more word bytes (h ∷ l ∷ rest) b so long digits is =
    let both = and_parts (is_hex_digit h) (is_hex_digit l) digits in
    let even = so.even in
    let whole : take (length (h ∷ l ∷ rest) - 2) rest ≡ rest = take_all _ rest (omega arith) in
    rw whole
    (record {
      value = so.value ∙ ap (λ x. bytes ++ x ∷ hex_value rest) (sym is)
          ∙ sym (append_assoc bytes (b ∷ []) (hex_value rest));
      digits = so.digits ∙ rw both.0 (rw both.1 refl);
      even = omega arith;
    })

pub Pairs-bad : (word bytes rest : List ℕ) → Pairs word bytes rest → 2 ≤ length rest
    → (is_hex_digit (get_or rest 0 0) && is_hex_digit (get_or rest 1 0)) ≡ false → hex_of word ≡ None
Pairs-bad word bytes [] so long bad = absurd (omega arith)
Pairs-bad word bytes (c ∷ []) so long bad = absurd (omega arith)
Pairs-bad word bytes (h ∷ l ∷ rest) so long bad =
    hex_of-none word (λ is.
    let all = and_parts (is_hex_digit h) (is_hex_digit l && list_all is_hex_digit rest) (sym so.digits ∙ is.digits) in
    let more = and_parts (is_hex_digit l) (list_all is_hex_digit rest) all.1 in
    both_ways _ bad (and_from _ _ all.0 more.0))

pub Pairs-end : (word bytes rest : List ℕ) → Pairs word bytes rest → 0 < length word → length word % 2 ≡ 0
    → length rest < 2 → hex_of word ≡ Some bytes
unfolding hex_value
Pairs-end word bytes [] so some even short = hex_of-some word (record { some = some; even = even; digits = so.digits })
    ∙ ap Some (so.value ∙ append-nil bytes)
Pairs-end word bytes (c ∷ rest) so some even short = let odd = so.even in absurd (omega arith)

-- ---- the loop of `push_hex`

pub hex_text_more : (old bytes : List ℕ) (i : ℕ) → i < length bytes
    → (old ++ hex_text (take i bytes)) ++ hex_digit (get_or bytes i 0 / 16) ∷ hex_digit (get_or bytes i 0 % 16) ∷ []
    ≡ old ++ hex_text (take (i + 1) bytes)
hex_text_more old bytes i lt =
    append_assoc old (hex_text (take i bytes)) _
    ∙ ap (λ t. old ++ t)
    (sym (ap hex_text (take_more bytes i 0 lt) ∙ hex_text-append (take i bytes) (get_or bytes i 0 ∷ [])
    ∙ unfold hex_text in refl))

-- ---- the spelling of bytes in a line

digits_clean : (ds : List ℕ) → list_all is_hex_digit ds ≡ true → (is_clean ds ≡ true) × (is_word ds ≡ true)
unfolding is_clean is_word
digits_clean [] e = (refl, refl)
digits_clean (c ∷ ds) e =
    let parts = and_parts (is_hex_digit c) (list_all is_hex_digit ds) e in
    let rest = digits_clean ds parts.1 in
    let range = digit_range c parts.0 in
    let low = range.0 in
    let high = range.1 in (
      and_from (leb 32 c && leb c 126) (list_all is_printable ds)
          (and_from (leb 32 c) (leb c 126) (le-leb 32 c (omega arith)) (le-leb c 126 (omega arith))) rest.0,
      and_from (not (eqb c 32)) (list_all (λ b. not (eqb b 32)) ds)
          (not_from_false (eqb c 32) (ne_eqb c 32 (omega arith))) rest.1,
    )
  where
    digit_range : (d : ℕ) → is_hex_digit d ≡ true → (48 ≤ d) × (d ≤ 102)
    digit_range d h =
        elim (or_cases (leb 48 d && leb d 57) (leb 97 d && leb d 102) h) [
          | inl digit ↦ let p = and_parts (leb 48 d) (leb d 57) digit in let a = leb-true 48 d p.0
              in let b = leb-true d 57 p.1 in (a, omega arith)
          | inr letter ↦ let p = and_parts (leb 97 d) (leb d 102) letter in let a = leb-true 97 d p.0
              in let b = leb-true d 102 p.1 in (omega arith, b)
        ]

-- it is clean and one word
pub is_clean-hex_text : (bytes : List ℕ) → AllByRecursion (λ b. b < 256) bytes → is_clean (hex_text bytes) ≡ true
is_clean-hex_text bytes h = (digits_clean (hex_text bytes) (hex_text-digits bytes h)).0

pub is_word-hex_text : (bytes : List ℕ) → AllByRecursion (λ b. b < 256) bytes → is_word (hex_text bytes) ≡ true
is_word-hex_text bytes h = (digits_clean (hex_text bytes) (hex_text-digits bytes h)).1

-- what a word spells is a list of bytes
pub hex_value-bytes : (word : List ℕ) → list_all is_hex_digit word ≡ true
    → AllByRecursion (λ b. b < 256) (hex_value word)
unfolding hex_value
hex_value-bytes [] h = tt
hex_value-bytes (c ∷ []) h = tt
hex_value-bytes (a ∷ b ∷ rest) h =
    let first = and_parts (is_hex_digit a) (is_hex_digit b && list_all is_hex_digit rest) h in
    let second = and_parts (is_hex_digit b) (list_all is_hex_digit rest) first.1 in
    let high = (hex_digit-value a first.0).1 in
    let low = (hex_digit-value b second.0).1 in
    (omega arith, hex_value-bytes rest second.1)

pub hex_text_injective : (a b : List ℕ) → AllByRecursion (λ x. x < 256) a → AllByRecursion (λ x. x < 256) b
    → hex_text a ≡ hex_text b → a ≡ b
hex_text_injective a b p q e = sym (hex_value-hex_text a p) ∙ ap hex_value e ∙ hex_value-hex_text b q

-- ---- digits that are printed

one_digit : (v : ℕ) → v < 16 → digits 16 false v ≡ hex_digit v ∷ []
unfolding digits
one_digit v lt =
    let small : v % 16 ≡ v = omega arith in
    cond-true _ _ _ (eq-eqb (v / 16) 0 (omega arith)) ∙ ap (λ (d : ℕ). digit_glyph false d ∷ []) small

-- the digits of one byte more
pub hex_shown : (bytes : List ℕ) (i : ℕ) → i < length bytes → get_or bytes i 0 < 256
    → hex_text (take i bytes) ++ (digits 16 false (get_or bytes i 0 / 16) ++ digits 16 false (get_or bytes i 0 % 16))
    ≡ hex_text (take (i + 1) bytes)
hex_shown bytes i lt byte =
    let b = get_or bytes i 0 in
    let high = one_digit (b / 16) (omega arith) in
    let low = one_digit (b % 16) (omega arith) in
    ap (λ (ds : List ℕ). hex_text (take i bytes) ++ (ds ++ digits 16 false (b % 16))) high
    ∙ ap (λ (ds : List ℕ). hex_text (take i bytes) ++ (hex_digit (b / 16) ∷ ds)) low
    ∙ hex_text_more [] bytes i lt
