-- What the next run finds in a file.
use Rattle.std.specs.Prelude.{◌≡◌, ℕ, ◌+◌, ◌*◌, ◌≤◌, List, ◌++◌, length, take}
use Rattle.std.proofs.Common.{inl, sym, subst}
use Rattle.mf_journal.specs.Frames.{IsJournal}
use Rattle.mf_journal.specs.Kept.{Keeps, disk_of}
use Rattle.mf_journal.specs.Memory.{IsImage, LeftSince}
use Rattle.mf_journal.specs.Run.{HasAcknowledged, HasFirst}
use Rattle.mf_journal.specs.declared.journal.Journal.{Journal}
use Rattle.mf_file.specs.Calls.{made, pieces}
use Rattle.mf_file.specs.Images.{MayBe, from_calls}
use Rattle.mf_file.specs.Told.{bytes_of, file_of, history_of}
use Rattle.mf_file.specs.declared.file.FileDisk.{FileDisk}
use Rattle.mf_file.specs.declared.raw.RawFile as raw

-- the records from before and the first of the new ones, at least k of these
abbrev pub AreFirst : List (List ℕ) → List (List ℕ) → ℕ → List (List ℕ) → Type 0
AreFirst ps more k records =
    (j : ℕ) × (k ≤ j) × (j ≤ length more) × (records ≡ ps ++ take j more)

module _ {F : Type 0} {g : raw.Ghosts F} where
  -- the bytes that a disk had as it was opened
  abbrev pub first_of : FileDisk F g → List ℕ
  first_of d = (history_of d).origin.first

  abbrev pub leaves_of : FileDisk F g → List ℕ → Type 0
  leaves_of d = IsImage (first_of d) (history_of d).log.writes

  abbrev pub calls_of : FileDisk F g → ℕ
  calls_of d = (history_of d).log.calls

  -- The hypothesis: a file was opened again, and had what the calls of the run before allow of a
  -- crash since call t.
  abbrev pub IsHonest : FileDisk F g → ℕ → FileDisk F g → Type 0
  IsHonest d t next = LeftSince (history_of d) t (first_of next)

  -- these records stand in the file
  abbrev pub KeepsIn : Journal (FileDisk F g) → List (List ℕ) → Type 0
  KeepsIn = Keeps bytes_of leaves_of

  -- a crash since the k-th append was acknowledged leaves the first k of these records at least
  abbrev pub Acknowledges : Journal (FileDisk F g) → Journal (FileDisk F g) → List (List ℕ) → ℕ
      → Type 0
  Acknowledges = HasAcknowledged bytes_of leaves_of calls_of (λ d. LeftSince (history_of d))

  -- these are the records that the file's first bytes were a journal of
  abbrev pub Finds : FileDisk F g → List (List ℕ) → Type 0
  Finds next records = (ps : List (List ℕ)) → IsJournal (first_of next) ps → records ≡ ps

  -- the journal that was opened has the records that the file's first bytes were a journal of
  abbrev pub KeepsFirst : Journal (FileDisk F g) → Type 0
  KeepsFirst journal =
      (ps : List (List ℕ)) → IsJournal (first_of (disk_of journal)) ps → KeepsIn journal ps

  -- Across a crash that came since the k-th append was acknowledged, the next run finds the records
  -- from before and the first of the new ones, at least k of these.
  abbrev pub FindsAgain : Journal (FileDisk F g) → Journal (FileDisk F g) → FileDisk F g → Type 0
  FindsAgain old new next =
      (ps more records : List (List ℕ)) (n k : ℕ) → KeepsIn old ps → Acknowledges old new more n
      → k ≤ n → IsHonest (disk_of new) (calls_of (disk_of old) + 4 * k) next → Finds next records
      → AreFirst ps more k records

  pub finds_again : (old new : Journal (FileDisk F g)) (next : FileDisk F g)
      → FindsAgain old new next
  finds_again old new next ps more records n k keeps acknowledges le honest finds =
      let has : HasFirst ps more k (first_of next) =
      acknowledges.each ps keeps k (first_of next) le honest in
      (has.j, has.some, has.not_more, finds (ps ++ take has.j more) has.stands)

  -- The same hypothesis by the calls that the file was asked for and their answers, for a crash at
  -- the end of a run.
  abbrev pub IsHonestFile : FileDisk F g → FileDisk F g → Type 0
  IsHonestFile d next = MayBe (first_of d) (made (g.calls (file_of d))) (first_of next)

  pub is_honest : (d next : FileDisk F g) (t : ℕ)
      → pieces (history_of d).log.writes ≡ made (g.calls (file_of d))
      → IsHonestFile d next → IsHonest d t next
  is_honest d next t asked honest =
      inl (from_calls (first_of d) (history_of d).log.writes (first_of next)
      (subst (λ ps. MayBe (first_of d) ps (first_of next)) (sym asked) honest))
