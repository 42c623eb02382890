-- Bytes in hexadecimal: their one spelling, and what a word spells.
use Rattle.std.specs.Prelude.{◌≡◌, ℕ, ◌+◌, ◌-◌, ◌*◌, ◌/◌, ◌%◌, ◌==◌, ◌&&◌, ◌||◌, nat_le, nat_lt, Bool, if◌then◌else◌}
use Rattle.std.specs.Prelude.{List, [], ◌∷◌, length, Option, Some, None}
use Rattle.std.specs.List.{list_all}
use Rattle.mf_text.specs.declared.hexadecimal.HexFault.{HexFault}
use Rattle.mf_text.specs.declared.hexadecimal.HexFault.TheVariants.{Shape, Memory}

-- the digit of a value below 16: `0` to `9`, then `a` to `f`
abbrev pub hex_digit : ℕ → ℕ
hex_digit v = if nat_lt v 10 then 48 + v else 87 + v

-- `0` to `9`, or `a` to `f`
abbrev pub is_hex_digit : ℕ → Bool
is_hex_digit c = (nat_le 48 c && nat_le c 57) || (nat_le 97 c && nat_le c 102)

-- the value of such a digit
abbrev pub hex_digit_value : ℕ → ℕ
hex_digit_value c = if nat_le c 57 then c - 48 else c - 87

-- the spelling of bytes: two digits each, the high one first
unfoldable pub hex_text : List ℕ → List ℕ
hex_text [] = []
hex_text (b ∷ bytes) = hex_digit (b / 16) ∷ hex_digit (b % 16) ∷ hex_text bytes

-- not empty, of even length, and digits alone
unfoldable pub is_hex_word : List ℕ → Bool
is_hex_word word = nat_lt 0 (length word) && (length word % 2 == 0) && list_all is_hex_digit word

-- the bytes of pairs of digits
unfoldable pub hex_value : List ℕ → List ℕ
hex_value [] = []
hex_value (c ∷ []) = []
hex_value (high ∷ low ∷ rest) = (16 * hex_digit_value high + hex_digit_value low) ∷ hex_value rest

-- the bytes that a word spells, where it spells some
unfoldable pub hex_of : List ℕ → Option (List ℕ)
hex_of word = if is_hex_word word then Some (hex_value word) else None

-- what a refusal of `hex_bytes` says of the word
abbrev pub IsHexFault : List ℕ → HexFault → Type 0
IsHexFault word Shape = hex_of word ≡ None
IsHexFault word Memory = Unit {0}
