-- What the outcomes of commands tell of one file.
use Rattle.std.specs.Prelude.{ℕ, ◌+◌, ◌==◌, ◌&&◌, Bool, true, false, cond, List, [], ◌∷◌, Option, Some, None}
use Rattle.mf_machine.specs.Counts.{bit}
use Rattle.mf_machine.specs.Words.{number_of, removed_of, vacant, filled}
use Rattle.mf_lines.specs.Meaning.{file_in}
use Rattle.mf_convert.specs.declared.change.Change.{Change}
use Rattle.mf_convert.specs.declared.change.Change.TheVariants as change
use Rattle.mf_read.specs.declared.outcome.ReadOutcome.{ReadOutcome}
use Rattle.mf_read.specs.declared.outcome.ReadOutcome.TheVariants as read
use Rattle.mf_repair.specs.declared.outcome.RepairOutcome.{RepairOutcome}
use Rattle.mf_repair.specs.declared.outcome.RepairOutcome.TheVariants as repair
use Rattle.mf_reclaim.specs.declared.outcome.ReclaimOutcome.{ReclaimOutcome}
use Rattle.mf_reclaim.specs.declared.outcome.ReclaimOutcome.TheVariants as reclaim
use Rattle.mf_client.specs.declared.done.Outcome.{Outcome}
use Rattle.mf_client.specs.declared.done.Outcome.TheVariants as outcome
use Rattle.mf_client.specs.declared.done.Part.{Part}
use Rattle.mf_client.specs.declared.done.Done.{Done}

-- how often a number was published; how often the right was found held; how often the file was found not created; how
-- many generations were closed; and how often a close of generation g was refused by n pins
pub record Tale : Type 0 where
  pub published : ℕ → ℕ
  pub refused : ℕ
  pub absent : ℕ
  pub closed : ℕ
  pub pinned : (g n : ℕ) → ℕ

-- nothing
abbrev pub no_tale : Tale
no_tale = record { published = λ m. 0; refused = 0; absent = 0; closed = 0; pinned = λ g n. 0 }

-- both
abbrev pub add_tale : Tale → Tale → Tale
add_tale t u = record {
  published = λ m. t.published m + u.published m;
  refused = t.refused + u.refused;
  absent = t.absent + u.absent;
  closed = t.closed + u.closed;
  pinned = λ g n. t.pinned g n + u.pinned g n;
}

-- ---- of one outcome

-- a change of a file of q stages
abbrev pub change_tale : (q : ℕ) → Change → Tale
change_tale q change.Created = record no_tale { published = bit (number_of 0) }
change_tale q (change.Converted from to made) = record no_tale { published = bit (number_of to) }
change_tale q change.RemovedNow = record no_tale { published = bit (removed_of q) }
change_tale q change.Busy = record no_tale { refused = 1 }
change_tale q change.Absent = record no_tale { absent = 1 }
change_tale q other = no_tale

-- a read that didn't give the bytes
abbrev pub read_tale : ReadOutcome → Tale
read_tale read.Absent = record no_tale { absent = 1 }
read_tale other = no_tale

-- a repair
abbrev pub repair_tale : RepairOutcome → Tale
repair_tale repair.Busy = record no_tale { refused = 1 }
repair_tale repair.Absent = record no_tale { absent = 1 }
repair_tale other = no_tale

-- how often n pins of generation g stand in the list of a reclaim
abbrev pub pins_told : List (ℕ × ℕ) → (g n : ℕ) → ℕ
pins_told [] g n = 0
pins_told (x ∷ rest) g n = cond (x.0 == g) (bit x.1 n) 0 + pins_told rest g n

-- a reclaim
abbrev pub reclaim_tale : ReclaimOutcome → Tale
reclaim_tale (reclaim.Reclaimed closed dropped pins) = record no_tale { closed = closed; pinned = pins_told pins }
reclaim_tale reclaim.Absent = record no_tale { absent = 1 }
reclaim_tale other = no_tale

-- any command on one file
abbrev pub outcome_tale : (q : ℕ) → Outcome → Tale
outcome_tale q (outcome.Change c) = change_tale q c
outcome_tale q (outcome.Refused r) = read_tale r
outcome_tale q (outcome.Repair r) = repair_tale r
outcome_tale q (outcome.Reclaim r) = reclaim_tale r
outcome_tale q outcome.HoldAbsent = record no_tale { absent = 1 }
outcome_tale q other = no_tale

-- ---- of the file with number n, which has q stages

-- the parts of a command on several files
abbrev pub parts_tale : (q n : ℕ) → List Part → Tale
parts_tale q n [] = no_tale
parts_tale q n (p ∷ parts) = add_tale (cond (p.file == n) (change_tale q p.change) no_tale) (parts_tale q n parts)

-- a command that is on this file, or on none
abbrev pub tale_in : (q n : ℕ) → Option ℕ → Outcome → List Part → Tale
tale_in q n (Some file) o parts = cond (file == n) (outcome_tale q o) no_tale
tale_in q n None o parts = parts_tale q n parts

-- a command
abbrev pub done_tale : (q n : ℕ) → Done → Tale
done_tale q n d = tale_in q n (file_in d.act) d.outcome d.parts

-- commands
abbrev pub tale_of : (q n : ℕ) → List Done → Tale
tale_of q n [] = no_tale
tale_of q n (d ∷ done) = add_tale (done_tale q n d) (tale_of q n done)

-- ---- whether a command may have taken the right on the file

-- a change or a repair took it where it wasn't refused; a sweep takes it on each file that is due
abbrev pub takes_right : Outcome → Bool
takes_right (outcome.Change change.Busy) = false
takes_right (outcome.Change c) = true
takes_right (outcome.Repair repair.Busy) = false
takes_right (outcome.Repair r) = true
takes_right (outcome.Swept n) = true
takes_right other = false

abbrev pub takes_in : (n : ℕ) → Option ℕ → Outcome → Bool
takes_in n (Some file) o = (file == n) && takes_right o
takes_in n None o = takes_right o

abbrev pub takes : (n : ℕ) → Done → Bool
takes n d = takes_in n (file_in d.act) d.outcome

-- ---- the place of a client's Hold slot, which is 0 as a phase begins

-- behind a command on the file
abbrev pub hold_by : Outcome → ℕ → ℕ
hold_by (outcome.Held g) hold = filled g
hold_by (outcome.Released g) hold = vacant
hold_by other hold = hold

abbrev pub hold_in : (n : ℕ) → Option ℕ → Outcome → ℕ → ℕ
hold_in n (Some file) o hold = cond (file == n) (hold_by o hold) hold
hold_in n None o hold = hold

-- behind commands
abbrev pub hold_behind : (n : ℕ) → List Done → ℕ → ℕ
hold_behind n [] hold = hold
hold_behind n (d ∷ done) hold = hold_behind n done (hold_in n (file_in d.act) d.outcome hold)
