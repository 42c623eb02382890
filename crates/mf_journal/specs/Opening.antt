-- What opening finds, and what it refuses.
use Rattle.std.specs.Prelude.{◌≡◌, ◌≢◌, ℕ, List, [], ◌∷◌, ◌++◌, length, map, take, Vec}
use Rattle.std.specs.List.{All}
use Rattle.std.specs.declared.alloc.Global.{Global}
use Rattle.mf_journal.specs.Frames.{front, framed, mark, IsShort}
use Rattle.mf_journal.specs.declared.opening.OpenFault.{OpenFault}
use Rattle.mf_journal.specs.declared.opening.OpenFault.TheVariants.{Disk, NotJournal, Bad, Memory}

-- the payloads
abbrev pub lists : List (Vec ℕ Global) → List (List ℕ)
lists vs = map (λ v. v.items) vs

-- nothing, or a gate that isn't open, and anything
abbrev pub IsShut : List ℕ → Type 0
IsShut [] = Unit {0}
IsShut (gate ∷ rest) = gate ≢ 165

-- These bytes open to these records, and the gate behind them is at this place. It may be past
-- the end.
pub record Opens (bytes : List ℕ) (ps : List (List ℕ)) (place : ℕ) : Type 0 where
  pub rest : List ℕ
  pub is : bytes ≡ front ps ++ rest
  pub shut : IsShut rest
  pub at : place ≡ length (front ps)
  pub short : All IsShort ps

-- no record begins here
abbrev pub HasNone : List ℕ → Type 0
HasNone bytes = (p tail : List ℕ) → IsShort p → bytes ≡ framed p ++ tail → ⊥

-- at this place, behind records, stands an open gate, and no record
pub record IsBad (bytes : List ℕ) (place : ℕ) : Type 0 where
  pub ps : List (List ℕ)
  pub rest : List ℕ
  pub is : bytes ≡ front ps ++ 165 ∷ rest
  pub at : place ≡ length (front ps)
  pub short : All IsShort ps
  pub none : HasNone rest

-- the bytes have this fault; the two others aren't theirs
abbrev pub HasFault : OpenFault → List ℕ → Type 0
HasFault Disk bytes = ⊥
HasFault NotJournal bytes = take 8 bytes ≢ mark
HasFault (Bad place) bytes = IsBad bytes place
HasFault Memory bytes = ⊥
