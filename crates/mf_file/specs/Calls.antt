-- The calls of a file, and the writes of a record.
use Rattle.std.specs.Prelude.{◌≡◌, ℕ, Bool, true, false, List, [], ◌∷◌, map, Option, Some, None}
use Rattle.mf_journal.specs.declared.log.Write.{Write}
use Rattle.mf_file.specs.declared.raw.Asked.{Asked}
use Rattle.mf_file.specs.declared.raw.Host.{Host}

abbrev pub put : ℕ → List ℕ → Bool → Asked
put at bytes done = record { at = Some at; bytes = bytes; done = done }

abbrev pub flushed : Bool → Asked
flushed done = record { at = None; bytes = []; done = done }

abbrev pub trace_of : Host → List Asked
trace_of h = h.trace.value

-- a write: its place, its bytes, and whether a sync after it succeeded
abbrev pub Piece : Type 0
Piece = ℕ × List ℕ × Bool

abbrev pub is_lasting : Option ℕ → Bool
is_lasting (Some n) = true
is_lasting None = false

abbrev pub pieces : List Write → List Piece
pieces [] = []
pieces (w ∷ ws) = (w.at, w.bytes, is_lasting w.sync) ∷ pieces ws

abbrev pub kept : List Piece → List Piece
kept [] = []
kept (p ∷ ps) = (p.0, p.1, true) ∷ kept ps

abbrev pub made_by : Option ℕ → List ℕ → Bool → List Piece → List Piece
made_by (Some at) bytes done ps = (at, bytes, false) ∷ ps
made_by None bytes true ps = kept ps
made_by None bytes false ps = ps

-- what the calls of a file make of it, the newest first
abbrev pub made : List Asked → List Piece
made [] = []
made (a ∷ earlier) = made_by a.at a.bytes a.done (made earlier)
