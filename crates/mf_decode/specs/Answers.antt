-- The answers of a stripe, and the order of an asking.
use Rattle.std.specs.Prelude.{ℕ, ◌≡◌, ◌+◌, ◌<◌, ◌≤◌, ◌⊎◌, Bool, List, [], ◌∷◌, ◌++◌, length, take, count_by, not}
use Rattle.std.specs.Prelude.{Option, Some, None, Result, Ok, Err, is_some}
use Rattle.std.specs.declared.alloc.AllocError.{AllocError}
use Rattle.mf_decode.specs.declared.pieces.Asked.{Asked}
use Rattle.mf_decode.specs.declared.pieces.Place.{Place}
use Rattle.mf_decode.specs.declared.pieces.Place.TheVariants as place

-- The answers with one more, at this place: an error adds none.
abbrev pub answers_after : Place → Result (Option (List ℕ)) AllocError → List Asked → List Asked
answers_after place (Ok chunk) answers = answers ++ record { place = place; had = is_some chunk } ∷ []
answers_after place (Err e) answers = answers

-- The place of an error.
abbrev pub failure_of : Place → Result (Option (List ℕ)) AllocError → Option Place
failure_of place (Ok chunk) = None
failure_of place (Err e) = Some place

-- How many were had, and how many were not.
abbrev pub had : List Bool → ℕ
had answers = count_by (λ h. h) answers

abbrev pub missing : List Bool → ℕ
missing answers = count_by not answers

-- The answers of the pieces from t on, in order, by whether each was had.
abbrev pub pieces_from : ℕ → List Bool → List Asked
pieces_from t [] = []
pieces_from t (h ∷ hs) = record { place = place.Piece t; had = h } ∷ pieces_from (t + 1) hs

-- The answers of the parities from p on, in order.
abbrev pub parities_from : ℕ → List Bool → List Asked
parities_from p [] = []
parities_from p (h ∷ hs) = record { place = place.Parity p; had = h } ∷ parities_from (p + 1) hs

-- A whole asking of `count` pieces and of the parities of `points` points, by what was had of each. The pieces are
-- asked for once each, ascending. Then the parities are, ascending, each only while fewer have been had than pieces are
-- missing, until as many have been had or all were asked for.
pub record IsAsking (count points : ℕ) (pieces parities : List Bool) (asked : List Asked) : Type 0 where
  pub order : asked ≡ pieces_from 0 pieces ++ parities_from 0 parities
  pub each : length pieces ≡ count
  pub exist : length parities ≤ points
  pub needed : (p : ℕ) → p < length parities → had (take p parities) < missing pieces
  pub ended : (had parities ≡ missing pieces) ⊎ (length parities ≡ points)

-- A whole asking that has as many parities as pieces are missing.
abbrev pub IsServed : ℕ → ℕ → List Asked → Type 0
IsServed count points asked =
    (pieces parities : List Bool) × IsAsking count points pieces parities asked
    × (had parities ≡ missing pieces)

-- A whole asking that is short: all parities were asked for, and fewer were had than pieces are missing.
abbrev pub IsShort : ℕ → ℕ → List Asked → Type 0
IsShort count points asked =
    (pieces parities : List Bool) × IsAsking count points pieces parities asked
    × (had parities < missing pieces)

-- The front of a whole asking.
abbrev pub IsBegun : ℕ → ℕ → List Asked → Type 0
IsBegun count points asked =
    (pieces parities : List Bool) × (rest : List Asked)
    × IsAsking count points pieces parities (asked ++ rest)

-- The place at which an asking that began so goes on.
abbrev pub IsNext : ℕ → ℕ → List Asked → Place → Type 0
IsNext count points asked place =
    (h : Bool) × IsBegun count points (asked ++ record { place = place; had = h } ∷ [])
