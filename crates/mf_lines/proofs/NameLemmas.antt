-- A file's name is text.
use Rattle.std.proofs.Common.{◌≡◌, ℕ, ◌<◌, ◌≤◌, zero, suc, Bool, true, false, not, leb, eqb, ◌&&◌, List, [], ◌∷◌, length, refl, arith}
use Rattle.std.proofs.Common.{inl, inr, Ok, drop}
use Rattle.std.specs.List.{list_all}
use Rattle.std.specs.Str.{IsUtf8, IsAscii}
use Rattle.std.proofs.lemmas.Bool.{and_parts, or_cases, leb-true, eqb-true}
use Rattle.std.proofs.lemmas.Str.{IsUtf8-nil, IsUtf8-append, IsUtf8-from_ascii}
use Rattle.mf_lines.specs.declared.parts.Content.{Content}
use Rattle.mf_lines.specs.declared.parts.LimitName.{LimitName}
use Rattle.mf_lines.specs.declared.parts.LimitName.TheVariants as limit
use Rattle.mf_lines.specs.Names.{is_name_byte, is_name}
use Rattle.mf_lines.specs.Meaning.{SoFar}
use Rattle.mf_lines.specs.Lines.{within, file_limits}

small_byte : (b : ℕ) → is_name_byte b ≡ true → b < 128
small_byte b e =
    elim (or_cases _ (eqb b 46) e) [
      | inl rest ↦ elim (or_cases _ (eqb b 45) rest) [
        | inl rest' ↦ elim (or_cases _ (eqb b 95) rest') [
          | inl both ↦ elim (or_cases (leb 97 b && leb b 122) (leb 48 b && leb b 57) both) [
            | inl letter ↦ let most = leb-true b 122 (and_parts (leb 97 b) (leb b 122) letter).1 in omega arith
            | inr digit ↦ let most = leb-true b 57 (and_parts (leb 48 b) (leb b 57) digit).1 in omega arith
          ]
          | inr is ↦ let same = eqb-true b 95 is in omega arith
        ]
        | inr is ↦ let same = eqb-true b 45 is in omega arith
      ]
      | inr is ↦ let same = eqb-true b 46 is in omega arith
    ]

single : (b : ℕ) → b < 128 → IsAscii (b ∷ [])
single b small zero = small
single b small (suc i) = omega arith

bytes_are_text : (bytes : List ℕ) → list_all is_name_byte bytes ≡ true → IsUtf8 bytes
bytes_are_text [] e = IsUtf8-nil
bytes_are_text (b ∷ bytes) e =
    let parts = and_parts (is_name_byte b) (list_all is_name_byte bytes) e in
    IsUtf8-append (b ∷ []) bytes (IsUtf8-from_ascii (b ∷ []) (single b (small_byte b parts.0)))
    (bytes_are_text bytes parts.1)

-- the bytes of a name are text
pub name_is_text : (name : List ℕ) → is_name name ≡ true → IsUtf8 name
name_is_text name e =
    bytes_are_text name
    (and_parts (leb 1 (length name) && leb (length name) 32) (list_all is_name_byte name) e).1

-- what passes no limit passes the first
first_kept : (kept : Bool) (limit : LimitName) (limits : List (Bool × LimitName))
    → within ((not kept, limit) ∷ limits) ≡ Ok tt → kept ≡ true
first_kept true limit limits e = refl
first_kept false limit limits e = absurd cc

-- a file that passes no limit has a name
pub name_kept : (so : SoFar) (name : List ℕ) (given : Content) → within (file_limits so name given) ≡ Ok tt
    → is_name name ≡ true
name_kept so name given e = first_kept (is_name name) limit.Name (drop 1 (file_limits so name given)) e
