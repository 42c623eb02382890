-- What a journal's bytes stand for.
use Rattle.std.specs.Prelude.{◌≡◌, ◌≢◌, ◌⊎◌, ℕ, ◌<◌, ◌^◌, List, [], ◌∷◌, ◌++◌, length}
use Rattle.std.specs.List.{All}
use Rattle.std.specs.Int.{w32, to_be_bytes}
use Rattle.mf_journal.specs.Crash.{IsLasting}

-- MORPHJL1
abbrev pub mark : List ℕ
mark = 77 ∷ 79 ∷ 82 ∷ 80 ∷ 72 ∷ 74 ∷ 76 ∷ 49 ∷ []

-- a record behind its gate: the length of its payload, and the payload
abbrev pub framed : List ℕ → List ℕ
framed payload = to_be_bytes w32 (length payload) ++ payload

-- records behind open gates
abbrev pub frames : List (List ℕ) → List ℕ
frames [] = []
frames (p ∷ ps) = (165 ∷ framed p) ++ frames ps

-- the mark and records behind open gates
abbrev pub front : List (List ℕ) → List ℕ
front ps = mark ++ frames ps

-- the length of a payload has four bytes
abbrev pub IsShort : List ℕ → Type 0
IsShort payload = length payload < 2 ^ 32

-- These bytes are a journal of these records: the mark, the records, a gate that isn't open, and
-- anything.
pub record IsJournal (bytes : List ℕ) (ps : List (List ℕ)) : Type 0 where
  pub gate : ℕ
  pub rest : List ℕ
  pub is : bytes ≡ front ps ++ gate ∷ rest
  pub shut : gate ≢ 165
  pub short : All IsShort ps

-- the records from before, with one more or without it
abbrev pub IsBeforeOrAfter : List (List ℕ) → List ℕ → List ℕ → Type 0
IsBeforeOrAfter ps p bytes = IsJournal bytes ps ⊎ IsJournal bytes (ps ++ p ∷ [])

-- the journal stands on the disk, all of it lasting, and its gate is at this place
pub record IsSettled (bytes : List ℕ) (images : List ℕ → Type 0) (place : ℕ) (ps : List (List ℕ))
    : Type 0 where
  pub stands : IsJournal bytes ps
  pub at : place ≡ length (front ps)
  pub lasting : IsLasting bytes images
