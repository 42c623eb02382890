-- What the two halves of an asking leave, as far as they came.
use Rattle.std.specs.Prelude.{ℕ, ◌≡◌, ◌+◌, ◌<◌, ◌≤◌, ◌⊎◌, Bool, true, false, Option, Some, None, is_some}
use Rattle.std.specs.Prelude.{List, [], ◌∷◌, ◌++◌, length, take, map, slice_index, slice_get}
use Rattle.std.specs.List.{slice_index_or}
use Rattle.mf_decode.specs.declared.pieces.Asked.{Asked}
use Rattle.mf_decode.specs.declared.pieces.Place.{Place}
use Rattle.mf_decode.specs.declared.pieces.Place.TheVariants as place
use Rattle.mf_decode.specs.Stripes.{Stripe, IsPiece, IsParity}
use Rattle.mf_decode.specs.Answers.{had, pieces_from, parities_from}

-- The places, counted from t on, of what was had.
abbrev pub had_from : ℕ → List Bool → List ℕ
had_from t [] = []
had_from t (true ∷ hs) = t ∷ had_from (t + 1) hs
had_from t (false ∷ hs) = had_from (t + 1) hs

-- Each chunk that was found is its piece of the stripe.
abbrev pub ArePieces : Stripe → List (Option (List ℕ)) → Type 0
ArePieces stripe found = (t : ℕ) (chunk : List ℕ) → slice_get found t ≡ Some (Some chunk) → IsPiece stripe t chunk

-- The chunks are the parities of these numbers.
pub record AreParities (stripe : Stripe) (numbers : List ℕ) (chunks : List (List ℕ)) : Type 0 where
  pub len : length chunks ≡ length numbers
  pub each : (j : ℕ) → j < length numbers → IsParity stripe (slice_index numbers j) (slice_index_or chunks j [])

-- All pieces were asked for, and these were found.
pub record PiecesAsked (stripe : Stripe) (before after : List Asked) (failure : Option Place)
    (found : List (Option (List ℕ))) : Type 0 where
  pub answers : after ≡ before ++ pieces_from 0 (map is_some found)
  pub count : length found ≡ stripe.count
  pub each : ArePieces stripe found
  pub unbroken : failure ≡ None

-- The pieces were asked for as far as memory reached: an error stands at the next piece.
abbrev pub PiecesCut : ℕ → List Asked → List Asked → Option Place → Type 0
PiecesCut count before after failure =
    (hs : List Bool)
    × (after ≡ before ++ pieces_from 0 hs)
    × (((failure ≡ None) × (length hs ≤ count)) ⊎ ((failure ≡ Some (place.Piece (length hs))) × (length hs < count)))

-- Parities were asked for in order, each only while fewer than wanted had been had.
pub record ParitiesInOrder (points wanted : ℕ) (before after : List Asked) (hs : List Bool) : Type 0 where
  pub answers : after ≡ before ++ parities_from 0 hs
  pub exist : length hs ≤ points
  pub needed : (p : ℕ) → p < length hs → had (take p hs) < wanted

-- The parities were asked for until as many as wanted had been had, or all were asked for.
pub record ParitiesAsked (stripe : Stripe) (wanted : ℕ) (before after : List Asked) (failure : Option Place)
    (numbers : List ℕ) (chunks : List (List ℕ)) (hs : List Bool) : Type 0 where
  pub order : ParitiesInOrder (length stripe.points) wanted before after hs
  pub numbers_are : numbers ≡ had_from 0 hs
  pub each : AreParities stripe numbers chunks
  pub ended : (had hs ≡ wanted) ⊎ ((had hs < wanted) × (length hs ≡ length stripe.points))
  pub unbroken : failure ≡ None

-- The parities were asked for as far as memory reached: an error stands at the next parity, which was still wanted.
abbrev pub ParitiesCut : ℕ → ℕ → List Asked → List Asked → Option Place → Type 0
ParitiesCut points wanted before after failure =
    (hs : List Bool) × ParitiesInOrder points wanted before after hs
    × ((failure ≡ None) ⊎ ((failure ≡ Some (place.Parity (length hs))) × (length hs < points) × (had hs < wanted)))
