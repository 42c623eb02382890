-- What a caller's pieces have.
use Rattle.std.proofs.Common.{◌≡◌, ℕ, ◌≤◌, ◌<◌, List, [], All, length, get_or, ap, arith}
use Rattle.std.proofs.lemmas.List.{length-map, get_or-map}
use Rattle.morph_codes.specs.declared.handed.Piece.{Piece}
use Rattle.morph_codes.specs.Handed.{bytes_of}

-- a piece's bytes among all
pub piece_at : (pieces : List Piece) (t : ℕ) (d : Piece) (e : List ℕ) → t < length pieces
    → get_or (bytes_of pieces) t e ≡ (get_or pieces t d).bytes.now
piece_at pieces t d e lt = get_or-map (λ (p : Piece). p.bytes.now) pieces t d e lt

pub length-bytes_of : (pieces : List Piece) → length (bytes_of pieces) ≡ length pieces
length-bytes_of pieces = length-map pieces (λ (p : Piece). p.bytes.now)

-- each piece has the columns
pub long_at : (pieces : List Piece) (t n : ℕ) (d : Piece) → t < length pieces
    → All (λ piece. n ≤ length piece) (bytes_of pieces) → n ≤ length (get_or pieces t d).bytes.now
long_at pieces t n d lt all =
    let long = all t [] (omega (arith, length-bytes_of pieces)) in
    omega (arith, long, ap length (piece_at pieces t d [] lt))

-- a piece of no bytes, which stands for one that isn't there
abbrev pub no_piece : Piece
no_piece = record { bytes = record { ref_ptr = (0, 0); now = [] } }
