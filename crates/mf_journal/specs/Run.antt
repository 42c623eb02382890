-- Adding several records: the calls that are made, and what a crash at any moment leaves.
use Rattle.std.specs.Prelude.{◌≡◌, ◌≢◌, ◌⊎◌, ℕ, ◌+◌, ◌*◌, ◌<◌, ◌≤◌, true, false, List, [], ◌++◌}
use Rattle.std.specs.Prelude.{length}
use Rattle.std.specs.Prelude.{get_or, take}
use Rattle.mf_journal.specs.Calls.{Ran}
use Rattle.mf_journal.specs.declared.log.Log.{Log}
use Rattle.mf_journal.specs.Frames.{IsJournal}
use Rattle.mf_journal.specs.Kept.{Keeps, adds, adds_all, gate_after}
use Rattle.mf_journal.specs.declared.journal.Journal.{Journal}
use Rattle.mf_journal.specs.declared.journal.JournalFault.{JournalFault}
use Rattle.mf_journal.specs.declared.journal.JournalFault.TheVariants.{Disk}

-- the calls of the first n records were made, and where the disk failed, those of the next one up
-- to the one that failed
pub record Stopped (gate : ℕ) (more : List (List ℕ)) (old new : Log) (n : ℕ) (fault : JournalFault)
    : Type 0 where
  pub fewer : n < length more
  pub between : Log
  pub ran : Ran (adds_all gate (take n more)) old between true
  pub failed : fault ≡ Disk
      → Ran (adds (gate_after gate (take n more)) (get_or more n [])) between new false
  pub no_call : fault ≢ Disk → new ≡ between

-- the records from before and the first j of these, j being at least k
pub record HasFirst (ps more : List (List ℕ)) (k : ℕ) (bytes : List ℕ) : Type 0 where
  pub j : ℕ
  pub some : k ≤ j
  pub not_more : j ≤ length more
  pub stands : IsJournal bytes (ps ++ take j more)

-- Each record takes four calls. Since the last one of the k-th, a crash leaves k records at least,
-- and since an earlier moment it leaves that or what it left before.
pub record HasAcknowledged {D : Type 0} (reads : D → List ℕ) (leaves : D → List ℕ → Type 0)
    (calls : D → ℕ) (left_since : D → ℕ → List ℕ → Type 0) (old new : Journal D)
    (more : List (List ℕ)) (n : ℕ) : Type 0 where
  pub each : (ps : List (List ℕ)) → Keeps reads leaves old ps
      → (k : ℕ) (c : List ℕ) → k ≤ n → left_since new.disk (calls old.disk + 4 * k) c
      → HasFirst ps more k c
  pub before : (ps : List (List ℕ)) → Keeps reads leaves old ps
      → (t : ℕ) (c : List ℕ) → t ≤ calls old.disk → left_since new.disk t c
      → left_since old.disk t c ⊎ HasFirst ps more 0 c

-- what it keeps, with these records behind
abbrev pub KeepsMore : {D : Type 0} → (D → List ℕ) → (D → List ℕ → Type 0) → Journal D → Journal D
    → List (List ℕ) → Type 0
KeepsMore reads leaves old new more =
    (ps : List (List ℕ)) → Keeps reads leaves old ps → Keeps reads leaves new (ps ++ more)
