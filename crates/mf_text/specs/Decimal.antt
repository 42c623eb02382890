-- Decimal numbers of 64 bits: their one spelling, and what a word spells.
use Rattle.std.specs.Prelude.{◌≡◌, ℕ, ◌^◌, ◌<◌, ◌≤◌, length, slice_index, ◌==◌, ◌&&◌, not, nat_lt, Bool, false}
use Rattle.std.specs.Prelude.{if◌then◌else◌, List, [], ◌∷◌, Option, Some, None, decimal}
use Rattle.std.specs.Char.{is_ascii_digit}
use Rattle.std.specs.Str.{all_ascii_digits}
use Rattle.std.specs.Str.Parse.{digits_value}

-- the one spelling of a number below 2 ^ 64
unfoldable pub decimal_text : ℕ → List ℕ
decimal_text n = decimal n

-- one or more digits, of which the first isn't `0`, or `0` alone
unfoldable pub is_decimal : List ℕ → Bool
is_decimal [] = false
is_decimal (c ∷ []) = is_ascii_digit c
is_decimal (c ∷ d ∷ rest) = not (c == 48) && all_ascii_digits (c ∷ d ∷ rest)

-- a word that begins as a number does
abbrev pub Leads : List ℕ → Type 0
Leads word = (0 < length word) × (48 ≤ slice_index word 0) × (slice_index word 0 ≤ 57)
    × (slice_index word 0 ≡ 48 → length word ≡ 1)

-- the number that a word spells, where it spells one below 2 ^ 64
unfoldable pub decimal_of : List ℕ → Option ℕ
decimal_of word =
    if is_decimal word && nat_lt (digits_value 10 word) (2 ^ 64) then Some (digits_value 10 word) else None
