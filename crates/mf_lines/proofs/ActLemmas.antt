-- The text of a command, written word by word.
use Rattle.std.proofs.Common.{◌≡◌, ℕ, List, [], ◌∷◌, ◌++◌, ap, refl, map, flat_map}
use Rattle.std.specs.Prelude.{codes}
use Rattle.std.specs.List.{join_with_byte}
use Rattle.std.proofs.lemmas.List.{append-nil}
use Rattle.mf_text.specs.Decimal.{decimal_text}
use Rattle.mf_places.specs.Texts as places
use Rattle.mf_lines.specs.LineTexts.{listed}

-- numbers behind a word
numbers_joined : (w : List ℕ) (ns : List ℕ)
    → w ++ flat_map places.spaced ns ≡ join_with_byte 32 (w ∷ map decimal_text ns)
unfolding decimal_text
numbers_joined w [] = append-nil w
numbers_joined w (n ∷ ns) = ap (λ (t : List ℕ). w ++ 32 ∷ t) (numbers_joined (decimal_text n) ns)

-- servers behind a name
pub none_joined : (name servers : List ℕ) → servers ≡ [] → name ≡ join_with_byte 32 (name ∷ listed servers)
none_joined name servers e = rw e refl

pub servers_joined : (name servers : List ℕ) → (servers ≡ [] → ⊥)
    → name ++ (codes " without" ++ flat_map places.spaced servers) ≡ join_with_byte 32 (name ∷ listed servers)
servers_joined name [] some = absurd (some refl)
servers_joined name (n ∷ ns) some =
    ap (λ (t : List ℕ). name ++ 32 ∷ t) (numbers_joined (codes "without") (n ∷ ns))
