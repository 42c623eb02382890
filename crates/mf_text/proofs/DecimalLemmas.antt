-- Decimal numbers: what a word spells is what was written, and the other way round.
use Rattle.std.proofs.Common.{◌≡◌, ◌≢◌, ℕ, ◌^◌, ◌<◌, ◌≤◌, true, false, not, eqb, ltb, leb, ◌&&◌, List, [], ◌∷◌, length}
use Rattle.std.proofs.Common.{get_or, Option, Some, None, Result, Ok, Err, IfSome, IfNone, refl, sym, ap, ◌∙◌, subst}
use Rattle.std.proofs.Common.{inl, inr, arith}
use Rattle.std.specs.Char.{is_ascii_digit}
use Rattle.std.specs.List.{list_all}
use Rattle.std.specs.Result.{result_ok, is_ok, MatchResult}
use Rattle.std.specs.Str.{all_ascii_digits, IsUtf8, IsAscii}
use Rattle.std.specs.Str.Parse.{digits_value, ParsesUnsigned}
use Rattle.std.specs.Fmt.{decimal}
use Rattle.std.proofs.lemmas.Bool.{cond-true, cond-false, cases_Bool, cases_lt, and_parts, and_from, lt-ltb, ltb-true}
use Rattle.std.proofs.lemmas.Bool.{ne_eqb, eqb-false, not-true, not_from_false, false_from_ne_true, leb-true, le-leb}
use Rattle.std.proofs.lemmas.List.{get_or_past}
use Rattle.std.proofs.lemmas.Str.{IsUtf8-from_ascii}
use Rattle.std.proofs.lemmas.Str.Parse.{IsNumeralModel, numerals_by_value, tells_all_ascii_digits, parse_plain}
use Rattle.std.proofs.lemmas.Str.Parse.{digit_at}
use Rattle.std.proofs.lemmas.Fmt.{digits_decimal, digits_value-decimal, decimal_digit, first_decimal, decimal_nonempty}
use Rattle.std.proofs.lemmas.Fmt.{decimal_injective, decimal-digits_value, length-decimal-le}
use Rattle.mf_text.specs.Lines.{is_printable, is_clean}
use Rattle.mf_text.specs.Decimal.{decimal_text, is_decimal, Leads, decimal_of}
use Rattle.mf_text.proofs.WordLemmas.{is_word}

own : IsNumeralModel (λ ds. all_ascii_digits ds ≡ true) (digits_value 10)
own = numerals_by_value (λ ds. all_ascii_digits ds ≡ true) tells_all_ascii_digits

-- ---- the shape of a decimal word

-- digits alone, one or more, and a leading zero stands alone
pub record IsDecimal (word : List ℕ) : Type 0 where
  pub digits : all_ascii_digits word ≡ true
  pub some : 0 < length word
  pub lead : get_or word 0 0 ≡ 48 → length word ≡ 1

pub IsDecimal-from : (word : List ℕ) → is_decimal word ≡ true → IsDecimal word
unfolding is_decimal
IsDecimal-from [] e = absurd cc
IsDecimal-from (c ∷ []) e = record
    { digits = and_from (is_ascii_digit c) true e refl; some = omega arith; lead = λ _. refl }
IsDecimal-from (c ∷ d ∷ rest) e =
    let parts = and_parts (not (eqb c 48)) (all_ascii_digits (c ∷ d ∷ rest)) e in
    record {
      digits = parts.1;
      some = omega arith;
      lead = λ zero. absurd
          (eqb-false c 48 (not-true (eqb c 48) parts.0) zero);
    }

pub is_decimal-true : (word : List ℕ) → IsDecimal word → is_decimal word ≡ true
unfolding is_decimal
is_decimal-true [] h = let some = h.some in absurd (omega arith)
is_decimal-true (c ∷ []) h = (and_parts (is_ascii_digit c) true h.digits).0
is_decimal-true (c ∷ d ∷ rest) h = and_from (not (eqb c 48)) (all_ascii_digits (c ∷ d ∷ rest))
    (not_from_false (eqb c 48) (ne_eqb c 48 (λ zero. let long = h.lead zero in omega arith))) h.digits

-- ---- what a word spells

pub decimal_of-some : (word : List ℕ) → IsDecimal word → digits_value 10 word < 2 ^ 64
    → decimal_of word ≡ Some (digits_value 10 word)
unfolding decimal_of
decimal_of-some word h lt = cond-true _ _ _
    (and_from (is_decimal word) (ltb (digits_value 10 word) (2 ^ 64)) (is_decimal-true word h)
    (lt-ltb (digits_value 10 word) (2 ^ 64) lt))

pub decimal_of-none : (word : List ℕ) → (IsDecimal word → digits_value 10 word < 2 ^ 64 → ⊥) → decimal_of word ≡ None
unfolding decimal_of
decimal_of-none word h =
    cond-false _ _ _ (false_from_ne_true _ (λ holds.
    let parts = and_parts (is_decimal word) (ltb (digits_value 10 word) (2 ^ 64)) holds in
    h (IsDecimal-from word parts.0) (ltb-true (digits_value 10 word) (2 ^ 64) parts.1)))

pub record Spells (word : List ℕ) (n : ℕ) : Type 0 where
  pub shape : IsDecimal word
  pub value : digits_value 10 word ≡ n
  pub small : n < 2 ^ 64

pub Spells-from : (word : List ℕ) (n : ℕ) → decimal_of word ≡ Some n → Spells word n
unfolding decimal_of
Spells-from word n e =
    let test = is_decimal word && ltb (digits_value 10 word) (2 ^ 64) in
    elim (cases_Bool test) [
      | inl holds ↦
          let parts = and_parts (is_decimal word) (ltb (digits_value 10 word) (2 ^ 64)) holds in
          let at = sym (cond-true _ _ _ holds) ∙ e in
          let value : digits_value 10 word ≡ n = cc in
          record {
            shape = IsDecimal-from word parts.0;
            value = value;
            small = subst (λ m. m < 2 ^ 64) value
                (ltb-true (digits_value 10 word) (2 ^ 64) parts.1);
          }
      | inr fails ↦ let at = sym (cond-false _ _ _ fails) ∙ e in absurd cc
    ]

-- ---- from a number to its text, and back

IsDecimal-decimal_text : (n : ℕ) → n < 2 ^ 64 → IsDecimal (decimal_text n)
unfolding decimal_text
IsDecimal-decimal_text n small =
    record {
      digits = digits_decimal own n small;
      some = decimal_nonempty n small;
      lead = λ zero.
          elim (cases_lt 0 n) [
            | inl pos ↦ absurd (let first = first_decimal n pos small in omega arith)
            | inr none ↦ let is : n ≡ 0 = omega arith in ap (λ m. length (decimal m)) is
                ∙ ap length (decimal_digit 0 (omega arith))
          ];
    }

-- a number's spelling spells it
pub decimal_of-decimal_text : (n : ℕ) → n < 2 ^ 64 → decimal_of (decimal_text n) ≡ Some n
decimal_of-decimal_text n small =
    let value : digits_value 10 (decimal_text n) ≡ n = unfold decimal_text in digits_value-decimal own n small in
    decimal_of-some (decimal_text n) (IsDecimal-decimal_text n small) (omega arith) ∙ ap Some value

-- a word that spells a number is its spelling
pub decimal_text-from : (word : List ℕ) (n : ℕ) → decimal_of word ≡ Some n → (word ≡ decimal_text n) × (n < 2 ^ 64)
unfolding decimal_text
decimal_text-from word n e =
    let is = Spells-from word n e in
    let value = is.value in
    let small = is.small in (
      sym (decimal-digits_value own word is.shape.digits is.shape.some is.shape.lead (omega arith))
          ∙ ap decimal value,
      small,
    )

pub decimal_text_injective : (m n : ℕ) → m < 2 ^ 64 → n < 2 ^ 64 → decimal_text m ≡ decimal_text n → m ≡ n
unfolding decimal_text
decimal_text_injective m n p q e = decimal_injective m n p q e

-- at least one digit and at most twenty
pub decimal_text_some : (n : ℕ) → n < 2 ^ 64 → 0 < length (decimal_text n)
unfolding decimal_text
decimal_text_some n small = decimal_nonempty n small

-- ---- the calls

pub decimal_some : (r : Option ℕ) (word : List ℕ) → r ≡ decimal_of word → IfSome r (λ n. word ≡ decimal_text n)
decimal_some (Some n) word e = (decimal_text-from word n (sym e)).0
decimal_some None word e = tt

pub decimal_none : (r : Option ℕ) (word : List ℕ) → r ≡ decimal_of word
    → IfNone r ((n : ℕ) → n < 2 ^ 64 → word ≢ decimal_text n)
decimal_none (Some n) word e = tt
decimal_none None word e = λ n small is. let back = e ∙ ap decimal_of is ∙ decimal_of-decimal_text n small in cc

pub decimal_back : (r : Option ℕ) (word : List ℕ) → r ≡ decimal_of word → (n : ℕ) → n < 2 ^ 64 → word ≡ decimal_text n
    → r ≡ Some n
decimal_back r word e n small is = e ∙ ap decimal_of is ∙ decimal_of-decimal_text n small

-- a word that spells a number begins as one does
pub decimal_of-other : (word : List ℕ) → ¬ (Leads word) → None ≡ decimal_of word
decimal_of-other word other =
    sym (decimal_of-none word (λ is small.
    let at = digit_at word 0 (own.to word is.digits) is.some in
    other (is.some, omega arith, omega arith, is.lead)))

pub decimal_of-not_text : (word : List ℕ) → ¬ (IsUtf8 word) → None ≡ decimal_of word
decimal_of-not_text word other = sym
    (decimal_of-none word (λ is small. other (IsUtf8-from_ascii word (ascii word is.digits))))
  where
    ascii : (ds : List ℕ) → all_ascii_digits ds ≡ true → IsAscii ds
    ascii ds e i =
        elim (cases_lt i (length ds)) [
          | inl lt ↦ let at = digit_at ds i (own.to ds e) lt in omega arith
          | inr le ↦ let past = get_or_past ds i 0 le in omega arith
        ]

pub decimal_of-parse : {E : Type 0} (word : List ℕ) (r : Result ℕ E) → Leads word → ParsesUnsigned 64 10 word r
    → result_ok r ≡ decimal_of word
decimal_of-parse {E} word (Ok n) leads h =
    let low = leads.1 in
    let plain = parse_plain own {E = E} 64 word (Ok n) h (λ plus. omega arith) in
    let at : decimal_of word
    ≡ Some (digits_value 10 word) = decimal_of-some word
    (record { digits = plain.0.0; some = plain.0.1; lead = leads.3 }) plain.0.2 in
    ap Some plain.1 ∙ sym at
decimal_of-parse {E} word (Err e) leads h =
    let low = leads.1 in
    let plain = parse_plain own {E = E} 64 word (Err e) h (λ plus. omega arith) in
    sym (decimal_of-none word (λ is small. plain (is.digits, is.some, small)))

-- what `str::from_utf8` says where `ok` gave nothing, and where it gave a text

pub from_none : {T E : Type 0} (r : Result T E) (P : T → Type 0) (Q : Type 0) (R : E → Type 0) → false ≡ is_ok r
    → MatchResult r P (λ e. Q × R e) → Q
from_none (Ok x) P Q R e h = absurd cc
from_none (Err e) P Q R none h = h.0

pub from_some : {T E : Type 0} (r : Result T E) (P : T → Type 0) (Q : E → Type 0) (x : T) → Some x ≡ result_ok r
    → MatchResult r P Q → P x
from_some (Ok y) P Q x e h = let is : y ≡ x = cc in subst P is h
from_some (Err e) P Q x some h = absurd cc

-- ---- a number's spelling in a line

pub length-decimal_text-le : (k n : ℕ) → 0 < k → n < 10 ^ k → n < 2 ^ 64 → length (decimal_text n) ≤ k
unfolding decimal_text
length-decimal_text-le k n some lt small = length-decimal-le k n some lt small

digits_clean : (ds : List ℕ) → all_ascii_digits ds ≡ true → (is_clean ds ≡ true) × (is_word ds ≡ true)
unfolding is_clean is_word
digits_clean [] e = (refl, refl)
digits_clean (c ∷ ds) e =
    let parts = and_parts (is_ascii_digit c) (all_ascii_digits ds) e in
    let rest = digits_clean ds parts.1 in
    let digit = and_parts (leb 48 c) (leb c 57) parts.0 in
    let low = leb-true 48 c digit.0 in
    let high = leb-true c 57 digit.1 in (
      and_from (leb 32 c && leb c 126) (list_all is_printable ds)
          (and_from (leb 32 c) (leb c 126) (le-leb 32 c (omega arith)) (le-leb c 126 (omega arith))) rest.0,
      and_from (not (eqb c 32)) (list_all (λ b. not (eqb b 32)) ds)
          (not_from_false (eqb c 32) (ne_eqb c 32 (omega arith))) rest.1,
    )

-- it is clean and one word
pub is_clean-decimal_text : (n : ℕ) → n < 2 ^ 64 → is_clean (decimal_text n) ≡ true
is_clean-decimal_text n small = (digits_clean (decimal_text n) (IsDecimal-decimal_text n small).digits).0

pub is_word-decimal_text : (n : ℕ) → n < 2 ^ 64 → is_word (decimal_text n) ≡ true
is_word-decimal_text n small = (digits_clean (decimal_text n) (IsDecimal-decimal_text n small).digits).1
