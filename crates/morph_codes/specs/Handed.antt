-- What a caller hands in.
use Rattle.std.specs.Prelude.{List, [], ℕ, ◌≡◌, ◌+◌, ◌<◌, ◌≤◌, All, length, map, slice_index_or}
use Rattle.std.specs.Prelude.{◌++◌, take, drop, Option, IfSome}
use Rattle.mf_decode.specs.Decoding.{Plan, gaps_from}
use Rattle.morph_codes.specs.declared.handed.Piece.{Piece}
use Rattle.morph_codes.specs.declared.handed.Room.{Room}

-- The bytes of each piece, in turn.
abbrev pub bytes_of : List Piece → List (List ℕ)
bytes_of pieces = map (λ p. p.bytes.now) pieces

-- The bytes of each room, in turn.
abbrev pub rooms_of : List Room → List (List ℕ)
rooms_of rooms = map (λ r. r.bytes.now) rooms

-- Each piece has `count` columns from `start` on.
abbrev pub HaveColumns : ℕ → ℕ → List Piece → Type 0
HaveColumns start count pieces = All (λ piece. start + count ≤ length piece) (bytes_of pieces)

-- Each room has `size` bytes.
abbrev pub RoomsFit : ℕ → List Room → Type 0
RoomsFit size rooms = (q : ℕ) → q < length rooms → length (slice_index_or (rooms_of rooms) q []) ≡ size

-- The bytes with a block written over those from `start` on.
abbrev pub written : ℕ → List ℕ → List ℕ → List ℕ
written start block bytes = take start bytes ++ (block ++ drop (start + length block) bytes)

-- The plan of stripes of `count` pieces that have lost these and have these parities.
abbrev pub plan_of : List ℕ → ℕ → List ℕ → List ℕ → Plan
plan_of points count lost had = record { points = points; width = count; erased = lost; parities = had }

-- A stripe of `count` pieces that has lost just these.
pub record HasLost (count : ℕ) (lost : List ℕ) (pieces : List (Option (List ℕ))) : Type 0 where
  pub len : length pieces ≡ count
  pub gaps : gaps_from 0 pieces ≡ lost
  pub bytes : All (λ piece. IfSome piece (λ chunk. All (λ b. b < 256) chunk)) pieces
