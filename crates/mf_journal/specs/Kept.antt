-- A journal that keeps its records.
use Rattle.std.specs.Prelude.{◌≡◌, ℕ, ◌+◌, Bool, false, List, [], ◌∷◌, ◌++◌, length}
use Rattle.mf_journal.specs.Calls.{Call, write, sync}
use Rattle.mf_journal.specs.Frames.{IsSettled, framed}
use Rattle.mf_journal.specs.declared.journal.Journal.{Journal}

abbrev pub disk_of : {D : Type 0} → Journal D → D
disk_of journal = journal.disk

-- an append has failed at the disk
abbrev pub is_broken : {D : Type 0} → Journal D → Bool
is_broken journal = journal.broken

-- the place of the gate
abbrev pub gate_of : {D : Type 0} → Journal D → ℕ
gate_of journal = journal.gate

-- these records stand on the disk, all of them lasting, and the next one goes behind them
pub record Keeps {D : Type 0} (reads : D → List ℕ) (leaves : D → List ℕ → Type 0)
    (journal : Journal D) (ps : List (List ℕ)) : Type 0 where
  pub whole : journal.broken ≡ false
  pub rest : IsSettled (reads journal.disk) (leaves journal.disk) journal.gate ps

-- the calls that add a record behind the gate at this place
abbrev pub adds : ℕ → List ℕ → List Call
adds gate p = write (gate + 1) (framed p ++ 0 ∷ []) ∷ sync ∷ write gate (165 ∷ []) ∷ sync ∷ []

-- the place of the gate behind more records
abbrev pub gate_after : ℕ → List (List ℕ) → ℕ
gate_after gate [] = gate
gate_after gate (p ∷ ps) = gate_after (gate + 5 + length p) ps

-- the calls that add records behind the gate at this place
abbrev pub adds_all : ℕ → List (List ℕ) → List Call
adds_all gate [] = []
adds_all gate (p ∷ ps) = adds gate p ++ adds_all (gate + 5 + length p) ps
